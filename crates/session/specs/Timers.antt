-- What a message that took effect does to the back-off timers on the three keys of its session.
use Rattle.std.specs.Prelude.{ℕ, Bool, cond, not, ◌&&◌, Some, None, Option, ◌==◌}
use Rattle.backoff.specs.Octet.{reading}
use Rattle.dl_nas.specs.declared.content.Content.{Content}
use Rattle.dl_nas.specs.declared.content.Content.TheVariants.{EstablishmentAccept, EstablishmentReject, ModificationReject, ModificationCommand, ReleaseReject, ReleaseCommand, Status, EstablishmentRequest, ModificationRequest, ReleaseRequest}
use Rattle.dl_nas.specs.declared.message.Received.{Received}
use Rattle.ul_nas.specs.declared.message.RequestType.{RequestType}
use Rattle.ul_nas.specs.Message.{emergency}
use Rattle.session.specs.declared.timers.TimerKind.{TimerKind}
use Rattle.session.specs.declared.timers.TimerKind.TheVariants.{T3396, T3584, T3585}
use Rattle.session.specs.declared.timers.TimerRule.{TimerRule}
use Rattle.session.specs.declared.timers.TimerRule.TheVariants.{NoMark, Mark, LiftAll}

abbrev pub kind_number : TimerKind → ℕ
kind_number T3396 = 1
kind_number T3584 = 2
kind_number T3585 = 3

-- the timer that a cause marks: congestion (its number differs inside and outside), 43, 45, or none
abbrev pub kind_of : ℕ → ℕ → Option TimerKind
kind_of congestion cause =
    cond (cause == congestion) (Some T3396)
    (cond (cause == 0x43) (Some T3584)
    (cond (cause == 0x45) (Some T3585) None))

-- the timer octet starts, deactivates or at zero lifts the timer; without one there is no mark
abbrev pub mark : Option TimerKind → Option ℕ → TimerRule
mark None timer = NoMark
mark (Some kind) None = NoMark
mark (Some kind) (Some octet) = Mark kind (reading octet)

-- a request that came back marks by the 5GMM cause, whose congestion is 16
abbrev pub returned_mark : Option ℕ → Option ℕ → TimerRule
returned_mark None timer = NoMark
returned_mark (Some cause) timer = mark (kind_of 0x16 cause) timer

-- C3, CA and D3 mark by the cause and the timer octet inside, whose congestion is 1A; CB, and D3 with cause 27, lift
-- on all three keys; a returned C1 or C9 marks by what stands outside
abbrev pub message_rule : Content → Option ℕ → Option ℕ → TimerRule
message_rule (EstablishmentReject cause timer) outer-cause outer-timer = mark (kind_of 0x1A cause) timer
message_rule (ModificationReject cause timer) outer-cause outer-timer = mark (kind_of 0x1A cause) timer
message_rule (ReleaseCommand cause timer) outer-cause outer-timer = cond (cause == 0x27) LiftAll (mark (kind_of 0x1A cause) timer)
message_rule (ModificationCommand timer) outer-cause outer-timer = LiftAll
message_rule EstablishmentRequest outer-cause outer-timer = returned_mark outer-cause outer-timer
message_rule ModificationRequest outer-cause outer-timer = returned_mark outer-cause outer-timer
message_rule (EstablishmentAccept timer) outer-cause outer-timer = NoMark
message_rule (ReleaseReject cause timer) outer-cause outer-timer = NoMark
message_rule (Status cause timer) outer-cause outer-timer = NoMark
message_rule ReleaseRequest outer-cause outer-timer = NoMark

-- only a message that took effect, and not on an emergency session
abbrev pub timer_rule : RequestType → Received → Bool → TimerRule
timer_rule t m took_effect_of = cond (took_effect_of && not (emergency t)) (message_rule m.content m.mm_cause m.outer_timer) NoMark
