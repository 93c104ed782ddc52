use Rattle.std.proofs.Common.{◌≡◌, true, Some, sym, ap, ◌∙◌}
use Rattle.std.proofs.lemmas.Bool.{and_parts, and_from, false≢true}
use Rattle.bar_record.specs.Record.{Kept, kept_view, kind_number, key_octets, key_kept, seconds_kept, written, lawful}
use Rattle.bar_record.proofs.Rebuilt.{key_lawful, whole}
use Rattle.bar_record.proofs.Telling.{told_none, told_of}
use Rattle.bar_record.proofs.read.read.Goals as goal

pub returns-then-is_record_of-clause-told : goal.returns-then-is_record_of-clause-told
returns-then-is_record_of-clause-told c =
    let b = c.in_ok-bar.bar in
    let is = c.is_record_of.ensures.0 c.if-is_record_of.true in
    let kept = and_from (key_kept (kind_number b.key) (key_octets b.key)) (seconds_kept b.seconds) (key_lawful b.key) is.1 in
    told_of c.args.record.now (Some b) (kept, sym c.in_ok-whole.ensures.cases.same ∙ is.0)

pub returns-else-is_record_of : goal.returns-else-is_record_of
returns-else-is_record_of c =
    let b = c.in_ok-bar.bar in
    let whole-is = c.in_ok-whole.ensures.cases.same in
    let none : (v : Kept) → lawful v ≡ true → c.args.record.now ≡ written v → ⊥ = λ v law is.
    let same : kept_view b ≡ v = cc (c.in_ok-bar.ensures v law (whole-is ∙ is)) in
    let kept = (and_parts (key_kept v.kind v.key) (seconds_kept v.seconds) law).1 in
    let yes-told = c.is_record_of.ensures.1 (whole-is ∙ is ∙ ap written (sym same), ap (λ w. seconds_kept w.seconds) same ∙ kept) in
    false≢true (sym c.if-is_record_of.false ∙ yes-told) in
    record { exact = none; back = λ v law is. absurd (none v law is); told = sym (told_none c.args.record.now none) }

pub returns-in_err-bar : goal.returns-in_err-bar
returns-in_err-bar c =
    let same = c.in_ok-whole.ensures.cases.same in
    let none : (v : Kept) → lawful v ≡ true → c.args.record.now ≡ written v → ⊥ = λ v law is. cc (c.in_err-bar.ensures v law (same ∙ is)) in
    rw c.from_residual-in_err-bar.ensures (record { exact = none; back = λ v law is. absurd (none v law is); told = sym (told_none c.args.record.now none) })

pub returns-in_err-whole-clause-told : goal.returns-in_err-whole-clause-told
returns-in_err-whole-clause-told c =
    rw c.from_residual.ensures (sym (told_none c.args.record.now (λ v law is. c.in_err-whole.ensures.cases (whole v c.args.record.now is law))))
