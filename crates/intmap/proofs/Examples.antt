-- The definitions at small lists, computed.
use Rattle.std.specs.Prelude.{◌≡◌, ℕ, ◌+◌, ◌%◌, ◌^◌, ◌==◌, pos, negsuc, List, [], ◌∷◌, map, Some, refl}
use Rattle.std.specs.List.{range_with_len}
use Rattle.intmap_table.specs.Keys.{number_of_signed}
use Rattle.intmap_table.specs.Classes.{slot_number}
use Rattle.intmap_table.specs.Bindings.{value_of, take_key, put_pair, write_value, keep_pairs, strike_keys}
use Rattle.intmap_table.specs.Walk.{walk_of, first_of_walk}
use Rattle.intmap_table.specs.Reach.{class_size, reach}
use Rattle.intmap.specs.Growth.{last_due, wanted_capacity, next_capacity, least_power}
use Rattle.intmap_table.specs.Figures.{load_of, rate_of, collisions_of}
use Rattle.std.specs.Map.{keys_of}

-- a key that is its own number
abbrev itself : ℕ → ℕ
itself k = k

-- pairs in which each key has ten more than itself
abbrev pairs_of : List ℕ → List (ℕ × ℕ)
pairs_of ks = map (λ k. (k, k + 10)) ks

-- three keys that share a slot of four
abbrev crowd : List (ℕ × ℕ)
crowd = pairs_of (0 ∷ 4 ∷ 8 ∷ [])

-- 1, -1 and the least integer of 64 bits
number_of_signed-ends : (number_of_signed (pos 1) ≡ 1) × (number_of_signed (negsuc 0) ≡ 18446744073709551615) × (number_of_signed (negsuc 9223372036854775807) ≡ 9223372036854775808)
number_of_signed-ends = (refl, refl, refl)

-- -1 has the last slot of four, as the greatest number below 2^64 has
slot_number-below : (slot_number number_of_signed (negsuc 0) 4 ≡ 3) × (slot_number itself 18446744073709551615 4 ≡ 3)
slot_number-below = (refl, refl)

-- a key that is inserted twice has the later value
put_twice : value_of {V = ℕ} itself (put_pair itself (put_pair itself [] 4 21 1) 4 21 2) 21 ≡ Some 2
put_twice = refl

-- the keys 0 to 7 in eight slots
walk_of-eight : keys_of (walk_of itself (pairs_of (range_with_len 0 8)) 8) ≡ 0 ∷ 5 ∷ 2 ∷ 7 ∷ 4 ∷ 1 ∷ 6 ∷ 3 ∷ []
walk_of-eight = refl

-- the last of the class takes the place of a removed key
take_key-first : keys_of (walk_of itself (take_key itself crowd 4 0) 4) ≡ 8 ∷ 4 ∷ []
take_key-first = refl

-- a key that is inserted again is last
put_pair-again : keys_of (walk_of itself (put_pair itself crowd 4 4 99) 4) ≡ 0 ∷ 8 ∷ 4 ∷ []
put_pair-again = refl

-- a written value stays in its place
write_value-here : walk_of itself (write_value itself crowd 4 99) 4 ≡ (0, 10) ∷ (4, 99) ∷ (8, 18) ∷ []
write_value-here = refl

-- the fourth key of a class, in four slots and then in eight
grown_crowd : keys_of (walk_of itself (walk_of itself (put_pair itself crowd 4 12 22) 4) 8) ≡ 0 ∷ 8 ∷ 4 ∷ 12 ∷ []
grown_crowd = refl

-- a load factor of a tenth: capacities at the fourth, the seventh and the twelfth key
next_capacity-tenth : (next_capacity 4 4 100 ≡ 64) × (next_capacity 64 7 100 ≡ 128) × (next_capacity 128 12 100 ≡ 128)
next_capacity-tenth = (refl, refl, refl)

-- a load factor of 0: capacities at the fourth, the fifth and the twelfth key
next_capacity-none : (next_capacity 2 4 0 ≡ 4096) × (next_capacity 4096 5 0 ≡ 8192) × (next_capacity 8192 12 0 ≡ 16384)
next_capacity-none = (refl, refl, refl)

-- the greatest key belongs to the last of four slots
walk_of-greatest : keys_of (walk_of itself (pairs_of (3 ∷ 7 ∷ 18446744073709551615 ∷ [])) 4) ≡ 3 ∷ 7 ∷ 18446744073709551615 ∷ []
walk_of-greatest = refl

load_of-greatest : load_of itself (pairs_of (3 ∷ 7 ∷ 18446744073709551615 ∷ [])) 4 ≡ 1
load_of-greatest = refl

-- at the usual factor the eleventh key isn't tested, and the twelfth is
next_capacity-usual : (next_capacity 4 4 909 ≡ 8) × (next_capacity 8 11 909 ≡ 8) × (next_capacity 8 12 909 ≡ 16)
next_capacity-usual = (refl, refl, refl)

rate_of-eleven : rate_of (pairs_of (range_with_len 0 11)) 8 ≡ 1375
rate_of-eleven = refl

-- three keys at a load factor of a tenth
wanted_capacity-three : wanted_capacity 4 3 100 ≡ 32
wanted_capacity-three = refl

walk_of-three : keys_of (walk_of itself (walk_of itself (pairs_of (0 ∷ 1 ∷ 2 ∷ [])) 4) 32) ≡ 0 ∷ 2 ∷ 1 ∷ []
walk_of-three = refl

-- no capacity up to 2^63 is enough
wanted_capacity-greatest : wanted_capacity 2 18446744073709551615 0 ≡ 2 ^ 74
wanted_capacity-greatest = refl

-- slot 0 has three keys and slot 1 two: in four slots the size 2 comes first
collisions_of-two : collisions_of itself (pairs_of (0 ∷ 2 ∷ 4 ∷ 1 ∷ 3 ∷ [])) 2 ≡ (3, 1) ∷ (2, 1) ∷ []
collisions_of-two = refl

walk_of-collisions : keys_of (walk_of itself (collisions_of itself (pairs_of (0 ∷ 2 ∷ 4 ∷ 1 ∷ 3 ∷ [])) 2) 4) ≡ 2 ∷ 3 ∷ []
walk_of-collisions = refl

-- the even keys struck
strike_keys-even : keys_of (strike_keys itself (walk_of itself (pairs_of (range_with_len 0 8)) 8) (0 ∷ 2 ∷ 4 ∷ 6 ∷ [])) ≡ 5 ∷ 7 ∷ 1 ∷ 3 ∷ []
strike_keys-even = refl

-- and the pairs of odd keys kept
keep_pairs-odd : keep_pairs (λ k v. k % 2 == 1) (walk_of itself (pairs_of (range_with_len 0 8)) 8) ≡ pairs_of (5 ∷ 7 ∷ 1 ∷ 3 ∷ [])
keep_pairs-odd = refl

first_of_walk-three : keys_of (first_of_walk itself 3 (pairs_of (range_with_len 0 8)) 8) ≡ 0 ∷ 5 ∷ 2 ∷ []
first_of_walk-three = refl

-- an absent key is compared with its whole class, a present one with those before it and itself
reach-crowd : (reach itself crowd 4 12 ≡ 3) × (reach itself crowd 4 4 ≡ 2) × (reach itself crowd 4 1 ≡ 0)
reach-crowd = (refl, refl, refl)

class_size-crowd : (class_size itself crowd 4 4 ≡ 3) × (class_size itself crowd 8 4 ≡ 1)
class_size-crowd = (refl, refl)

last_due-some : (last_due 4 ≡ 4) × (last_due 8 ≡ 7) × (last_due 11 ≡ 7) × (last_due 13 ≡ 13)
last_due-some = (refl, refl, refl, refl)

least_power-some : (least_power 0 ≡ 1) × (least_power 20 ≡ 32) × (least_power 9001 ≡ 16384)
least_power-some = (refl, refl, refl)
