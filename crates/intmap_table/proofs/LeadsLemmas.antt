-- What goes over the elements of a list in turn, done in part.
use Rattle.std.proofs.Common.{List, [], ◌++◌, sym, subst, append-nil, append_assoc}

module _ {F X : Type 0} (Goes : F → List X → List X → F → Type 0) where
  -- it went over L from f₀ up to the elements that are left, where it is at f, and made `done` of those before
  abbrev pub Leads : F → List X → F → List X → List X → Type 0
  Leads f₀ L f done left = (N : List X) (g : F) → Goes f left N g → Goes f₀ L (done ++ N) g

  module _ (append : (f g h : F) (L L' M M' : List X) → Goes f L M g → Goes g L' M' h → Goes f (L ++ L') (M ++ M') h) where
    -- it goes over the first of those that are left, and makes `made` of them
    pub Leads-next : (f₀ f h : F) (L done first made left : List X) → Leads f₀ L f done (first ++ left) → Goes f first made h → Leads f₀ L h (done ++ made) left
    Leads-next f₀ f h L done first made left leads run N g r =
        subst (λ Z. Goes f₀ L Z g) (sym (append_assoc done made N)) (leads (made ++ N) g (append f h g first left made N run r))

  -- it went over all
  pub Leads-end : (f₀ f : F) (L done : List X) → Goes f [] [] f → Leads f₀ L f done [] → Goes f₀ L done f
  Leads-end f₀ f L done none leads = subst (λ Z. Goes f₀ L Z f) (append-nil done) (leads [] f none)
