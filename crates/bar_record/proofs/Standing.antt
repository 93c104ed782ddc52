-- Parts that stand in a record.
use Rattle.std.proofs.Common.{◌≡◌, ℕ, ◌+◌, ◌≤◌, List, length, take, drop, ◌∙◌, arith, length-drop}
use Rattle.std.proofs.lemmas.List.{ext_get_or, get_or-take, get_or-drop, length-take-le}
use Rattle.bar_record.specs.Answers.{Stands}

-- octets that stand from a place on are the part of the record from there
pub stood : (rec xs : List ℕ) (at n : ℕ) → n ≡ length xs → at + n ≤ length rec → Stands rec at xs → take n (drop at rec) ≡ xs
stood rec xs at n e h stands =
    let rest = length-drop at rec in
    let long = length-take-le n (drop at rec) (omega arith) in
    ext_get_or 0 (take n (drop at rec)) xs (long ∙ e) (λ j lt. get_or-take n (drop at rec) j 0 (omega arith) ∙ get_or-drop at rec j 0 ∙ stands j (omega arith))
