-- A table in which fewer bars stand than it has places has a place for one more.
use Rattle.std.proofs.Common.{◌≡◌, true, false, not, ltb, List, length, ap, ◌∙◌}
use Rattle.std.specs.List.{prefix_len}
use Rattle.std.proofs.lemmas.Bool.{and_parts, not-true, cond-false}
use Rattle.keys.specs.Octets.{KeyOctets}
use Rattle.bars.specs.declared.bar.Bar.{Bar}
use Rattle.bars.specs.Bars.{stands, timer_on, standing, place_for, has_place}
use Rattle.bars.specs.Sizes.{place_count}
use Rattle.bars.proofs.Rows.{held_test, room_test}
use Rattle.timers.specs.Kept.{takes}

-- where a bar is taken, its place is the first at which none stands
pub taken_place : (k : KeyOctets) (bs : List (Bar KeyOctets)) → stands (timer_on bs k) ≡ false → place_for k bs ≡ prefix_len (λ b. stands b.timer) bs
taken_place k bs none = cond-false _ _ _ (held_test k bs ∙ none)

-- a table of 32 places takes a bar only where it has a place for it
pub taken_has_place : (k : KeyOctets) (bs : List (Bar KeyOctets)) → length bs ≡ place_count → takes k bs ≡ true → has_place k bs ≡ true
taken_has_place k bs full ok =
    let p = and_parts (not (stands (timer_on bs k))) (ltb (standing bs) place_count) ok in
    ap (λ i. ltb i (length bs)) (taken_place k bs (not-true _ p.0)) ∙ room_test bs ∙ ap (λ n. ltb (standing bs) n) full ∙ p.1
