-- The timer that the list leaves on a key, and what each stroke makes of it.
use Rattle.std.proofs.Common.{◌≡◌, ℕ, ◌+◌, ◌-◌, ◌*◌, ◌/◌, ◌%◌, ◌<◌, ◌≤◌, Bool, true, false, cond, eqb, ltb, leb, List, Some, None, Option, sym, refl, ap, ◌∙◌, arith}
use Rattle.std.proofs.lemmas.Bool.{cond_both, ltb-true, ltb-false, eqb-false, and_from, le-leb}
use Rattle.std.proofs.lemmas.Bool.Decides.{nat_tests}
use Rattle.backoff.specs.declared.octet.TimerUnit.{TimerUnit}
use Rattle.backoff.specs.declared.octet.TimerUnit.TheVariants as unit
use Rattle.backoff.specs.declared.octet.TimerValue.{TimerValue}
use Rattle.backoff.specs.declared.octet.TimerValue.TheVariants.{Zero, Seconds, Deactivated}
use Rattle.backoff.specs.declared.timer.BackOffTimer.{BackOffTimer}
use Rattle.backoff.specs.declared.timer.BackOffTimer.TheVariants.{Stopped, Running}
use Rattle.backoff.specs.declared.timer.BackOffTimer.TheVariants as timer
use Rattle.backoff.specs.Octet.{unit_of, reading_of, reading}
use Rattle.backoff.specs.Timer as timers
use Rattle.bars.specs.Bars as bars
use Rattle.bar_record.specs.Record.{seconds_kept}
use Rattle.dl_nas.specs.declared.content.Content.{Content}
use Rattle.dl_nas.specs.declared.content.Content.TheVariants.{EstablishmentAccept, EstablishmentReject, ModificationReject, ModificationCommand, ReleaseReject, ReleaseCommand, Status, EstablishmentRequest, ModificationRequest, ReleaseRequest}
use Rattle.session.specs.declared.timers.TimerKind.{TimerKind}
use Rattle.session.specs.declared.timers.TimerRule.{TimerRule}
use Rattle.session.specs.declared.timers.TimerRule.TheVariants.{NoMark, Mark, LiftAll}
use Rattle.session.specs.Timers.{kind_of, mark, returned_mark, message_rule}
use Rattle.law.specs.Timers.{Stroke, lifted_if_deactivated, imposed, counted, stands}

-- the timer of what was imposed, after the seconds counted
abbrev pub left_by : TimerValue → ℕ → BackOffTimer
left_by Zero n = Stopped
left_by (Seconds s) n = cond (ltb n s) (Running (s - n)) Stopped
left_by Deactivated n = timer.Deactivated

abbrev pub left_of : List Stroke → BackOffTimer
left_of es = left_by (imposed es) (counted es)

pub left_stands : (v : TimerValue) (n : ℕ) → bars.stands (left_by v n) ≡ stands v n
left_stands Zero n = refl
left_stands (Seconds s) n = cond_both (ltb n s) (Running (s - n)) Stopped (λ t. bars.stands t ≡ ltb n s) (λ e. sym e) (λ e. sym e)
left_stands Deactivated n = refl

running_later : (s n m : ℕ) → cond (ltb (n + m) s) (Running (s - (n + m))) Stopped ≡ timers.counted m (cond (ltb n s) (Running (s - n)) Stopped)
running_later s n m =
    cond_both (ltb n s) (Running (s - n)) Stopped (λ t. cond (ltb (n + m) s) (Running (s - (n + m))) Stopped ≡ timers.counted m t)
    (λ e. let l = ltb-true n s e in
    let same : s - (n + m) ≡ s - n - m = omega arith in
    let test : ltb (n + m) s ≡ ltb m (s - n) = grind (arith, nat_tests) in
    ap (λ b. cond b (Running (s - (n + m))) Stopped) test ∙ ap (λ x. cond (ltb m (s - n)) (Running x) Stopped) same)
    (λ e. let l = ltb-false n s e in
    let test : ltb (n + m) s ≡ false = grind (arith, nat_tests) in
    ap (λ b. cond b (Running (s - (n + m))) Stopped) test)

pub left_later : (v : TimerValue) (n m : ℕ) → left_by v (n + m) ≡ timers.counted m (left_by v n)
left_later Zero n m = refl
left_later (Seconds s) n m = running_later s n m
left_later Deactivated n m = refl

pub left_reactivated : (v : TimerValue) (n : ℕ) → left_by (lifted_if_deactivated v) n ≡ bars.reactivated (left_by v n)
left_reactivated Zero n = refl
left_reactivated (Seconds s) n = cond_both (ltb n s) (Running (s - n)) Stopped (λ t. t ≡ bars.reactivated t) (λ _. refl) (λ _. refl)
left_reactivated Deactivated n = refl

-- what a timer octet imposes
abbrev pub lawful_value : TimerValue → Bool
lawful_value Zero = true
lawful_value (Seconds n) = seconds_kept n
lawful_value Deactivated = true

abbrev pub lawful_rule : TimerRule → Bool
lawful_rule NoMark = true
lawful_rule (Mark kind v) = lawful_value v
lawful_rule LiftAll = true

seconds_fit : (n : ℕ) → 1 ≤ n → n ≤ 35712000 → seconds_kept n ≡ true
seconds_fit n low high = and_from (leb 1 n) (leb n 35712000) (le-leb 1 n low) (le-leb n 35712000 high)

reading_lawful : (u : TimerUnit) (v : ℕ) → v < 32 → lawful_value (reading_of u v) ≡ true
reading_lawful unit.TenMinutes v h = cond_both (eqb v 0) Zero (Seconds (600 * v)) (λ x. lawful_value x ≡ true) (λ _. refl) (λ e. let z = eqb-false v 0 e in seconds_fit (600 * v) (omega arith) (omega arith))
reading_lawful unit.OneHour v h = cond_both (eqb v 0) Zero (Seconds (3600 * v)) (λ x. lawful_value x ≡ true) (λ _. refl) (λ e. let z = eqb-false v 0 e in seconds_fit (3600 * v) (omega arith) (omega arith))
reading_lawful unit.TenHours v h = cond_both (eqb v 0) Zero (Seconds (36000 * v)) (λ x. lawful_value x ≡ true) (λ _. refl) (λ e. let z = eqb-false v 0 e in seconds_fit (36000 * v) (omega arith) (omega arith))
reading_lawful unit.TwoSeconds v h = cond_both (eqb v 0) Zero (Seconds (2 * v)) (λ x. lawful_value x ≡ true) (λ _. refl) (λ e. let z = eqb-false v 0 e in seconds_fit (2 * v) (omega arith) (omega arith))
reading_lawful unit.ThirtySeconds v h = cond_both (eqb v 0) Zero (Seconds (30 * v)) (λ x. lawful_value x ≡ true) (λ _. refl) (λ e. let z = eqb-false v 0 e in seconds_fit (30 * v) (omega arith) (omega arith))
reading_lawful unit.OneMinute v h = cond_both (eqb v 0) Zero (Seconds (60 * v)) (λ x. lawful_value x ≡ true) (λ _. refl) (λ e. let z = eqb-false v 0 e in seconds_fit (60 * v) (omega arith) (omega arith))
reading_lawful unit.ThreeHundredTwentyHours v h = cond_both (eqb v 0) Zero (Seconds (1152000 * v)) (λ x. lawful_value x ≡ true) (λ _. refl) (λ e. let z = eqb-false v 0 e in seconds_fit (1152000 * v) (omega arith) (omega arith))
reading_lawful unit.Deactivated v h = refl

value_lawful : (octet : ℕ) → lawful_value (reading octet) ≡ true
value_lawful octet = reading_lawful (unit_of (octet / 32)) (octet % 32) (omega arith)

mark_lawful : (k : Option TimerKind) (o : Option ℕ) → lawful_rule (mark k o) ≡ true
mark_lawful None o = refl
mark_lawful (Some k) None = refl
mark_lawful (Some k) (Some x) = value_lawful x

returned_lawful : (c o : Option ℕ) → lawful_rule (returned_mark c o) ≡ true
returned_lawful None o = refl
returned_lawful (Some c) o = mark_lawful (kind_of 0x16 c) o

pub rule_lawful : (c : Content) (cause timer : Option ℕ) → lawful_rule (message_rule c cause timer) ≡ true
rule_lawful (EstablishmentAccept t) cause timer = refl
rule_lawful (EstablishmentReject c t) cause timer = mark_lawful (kind_of 0x1A c) t
rule_lawful (ModificationReject c t) cause timer = mark_lawful (kind_of 0x1A c) t
rule_lawful (ModificationCommand t) cause timer = refl
rule_lawful (ReleaseReject c t) cause timer = refl
rule_lawful (ReleaseCommand c t) cause timer = cond_both (eqb c 0x27) LiftAll (mark (kind_of 0x1A c) t) (λ r. lawful_rule r ≡ true) (λ _. refl) (λ _. mark_lawful (kind_of 0x1A c) t)
rule_lawful (Status c t) cause timer = refl
rule_lawful EstablishmentRequest cause timer = returned_lawful cause timer
rule_lawful ModificationRequest cause timer = returned_lawful cause timer
rule_lawful ReleaseRequest cause timer = refl
