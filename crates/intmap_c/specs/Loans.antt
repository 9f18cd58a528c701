-- A map that is lent to be read, to any number of calls at once.
use Rattle.std.specs.Prelude.{◌^◌}
use base.Fml.{Lft, Share, Fml, feq, flt, fsep, flft}
use denote.RawPtr.{Ptr, null_ptr, count_of}
use denote.Sharing.{said, beside}
use denote.Struct.Lending.{lent_at}
use Rattle.std.specs.declared.option.Option.{Option}
use Rattle.std.specs.declared.option.Option.TheVariants.{None, Some}
use Rattle.intmap_c.specs.Handles.{Map}

-- what a word gives to its readers for a lifetime: null, or else the map, at an address that may be compared with null
abbrev pub shares_map : Ptr → Option Map.Denot → Lft → Fml
shares_map p None = said (feq Ptr p null_ptr)
shares_map p (Some m) = beside (lent_at Map p m) (said (flt (count_of p) (2 ^ 63)))

-- for how long a map is lent, a share of the right to end that, and the map, if there is one
pub record Loan : Type 0 where
  pub life : Lft
  pub share : Share
  pub value : Option Map.Denot

-- the map at the address p is lent, for a lifetime of which the loan has a share
abbrev pub is_lent : Loan → Ptr → Fml
is_lent l p = fsep (flft l.life l.share) (shares_map p l.value l.life)
