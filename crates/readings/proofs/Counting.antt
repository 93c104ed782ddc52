-- Seconds taken off the timers leave no more keys claimed.
use Rattle.std.proofs.Common.{◌≡◌, ℕ, true, leb, List, sym, refl, ap, ◌∙◌}
use Rattle.std.proofs.lemmas.Bool.{or_left, or_right}
use Rattle.backoff.specs.declared.timer.BackOffTimer.{BackOffTimer}
use Rattle.backoff.specs.declared.timer.BackOffTimer.TheVariants.{Stopped, Running, Deactivated}
use Rattle.backoff.specs.Timer.{counted}
use Rattle.bars.specs.declared.bar.Bar.{Bar}
use Rattle.bars.specs.Bars.{stands, timer_on, apart, counted_off}
use Rattle.bars.specs.Claimed.{among, keys_of, claimed}
use Rattle.bars.specs.Sizes.{place_count}
use Rattle.bars.proofs.Changes.{counts}
use Rattle.bars.proofs.Distincts.{among_append, among_standing}
use Rattle.keys.specs.Octets.{KeyOctets}
use Rattle.requests.specs.Sound.{claims_fit}
use Rattle.requests.proofs.Leaving.{three}
use Rattle.requests.proofs.Rows.{fits_still}
use Rattle.requests.proofs.Thinning.{or_either}
use Rattle.session.specs.Session.{SessionView, name_key_of, slice_name_key_of, slice_key_of}
use Rattle.sessions.specs.Live.{live_keys}
use Rattle.timers.specs.Timers.{TimersView, counted_timers}

-- a timer that stands after some seconds stood before
stood : (seconds : ℕ) (t : BackOffTimer) → stands (counted seconds t) ≡ true → stands t ≡ true
stood seconds Stopped h = h
stood seconds (Running n) h = refl
stood seconds Deactivated h = refl

fewer : (seconds : ℕ) (bs : List (Bar KeyOctets)) (ks : List KeyOctets) → apart bs ≡ true → leb (claimed bs ks) place_count ≡ true → leb (claimed (counted_off seconds bs) ks) place_count ≡ true
fewer seconds bs ks sound few =
    fits_still bs (counted_off seconds bs) ks ks
    (λ q h.
    among_append q (keys_of bs) ks
    ∙ or_either (among q (keys_of (counted_off seconds bs))) (among q ks) (sym (among_append q (keys_of (counted_off seconds bs)) ks) ∙ h)
    (λ e.
    let law = counts seconds bs sound in
    let s = stood seconds (timer_on bs q) (sym (ap stands (law.timers q)) ∙ (sym (among_standing q (counted_off seconds bs)) ∙ e)) in
    or_left (among q (keys_of bs)) (among q ks) (among_standing q bs ∙ s))
    (λ e. or_right (among q (keys_of bs)) (among q ks) e))
    few

pub claims_counted : (seconds : ℕ) (t : TimersView) (vs : List SessionView) → apart t.t3396 ≡ true → apart t.t3584 ≡ true → apart t.t3585 ≡ true
    → claims_fit t vs ≡ true → claims_fit (counted_timers seconds t) vs ≡ true
claims_counted seconds t vs a b c h =
    three _ _ _ _ _ _ (fewer seconds t.t3396 (live_keys name_key_of vs) a) (fewer seconds t.t3584 (live_keys slice_name_key_of vs) b) (fewer seconds t.t3585 (live_keys slice_key_of vs) c) h
