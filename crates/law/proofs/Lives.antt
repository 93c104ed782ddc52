-- Every life keeps the law.
use Rattle.std.proofs.Common.{◌≡◌, ℕ, ◌+◌, ◌<◌, ◌≤◌, true, false, cond, ◌&&◌, eqb, leb, ◌⊎◌, List, [], ◌∷◌, length, get_or, take, replicate, Some, None, fold, Option, sym, refl, ap, ◌∙◌, subst, inl, inr, ⊎_elim, arith}
use Rattle.std.specs.Str.{bytes_eq}
use Rattle.std.proofs.lemmas.List.{length-set, get_or-set_same}
use Rattle.std.proofs.lemmas.List.Sums.{fold_more}
use Rattle.std.proofs.lemmas.Bool.{cond_both, and_parts, eqb-true}
use Rattle.backoff.specs.declared.timer.BackOffTimer.TheVariants as timer
use Rattle.bars.specs.Bars.{timer_on}
use Rattle.kept_set.specs.Loading.{kept_timers, or_none, loaded}
use Rattle.kept_set.specs.Trailer.{trailer_number, trailer_card, trailer_count, last_records}
use Rattle.requests.specs.State.{StateView}
use Rattle.timers.specs.Timers.{no_timers}
use Rattle.uplink.specs.Sizes.{capacity}
use Rattle.rules.specs.Calls.{Said, switch_on, switch_off, establish, modify, release, take_in, time_reading, change_network, network_take, look, Handset, Step, step, not_available, lawful_call}
use Rattle.rules.specs.Power.{commissioned}
use Rattle.law.specs.Moments.{Moment, available, Life, moment_of, lived_on, called, begun, life}
use Rattle.law.specs.Law.{Law, EveryLife}
use Rattle.law.proofs.Tables.{table, Sound, free_sound, free_timer}
use Rattle.law.proofs.Lived.{Lived, Leads}
use Rattle.law.proofs.Asking.{establish_leads, modify_leads, release_leads}
use Rattle.law.proofs.Taking.{take_in_leads}
use Rattle.law.proofs.Switching.{reading_leads, network_leads, take_leads, off_leads, on_leads, dark_take_leads}

-- nothing is restored of a commissioned handset
module _ (records : List (List ℕ)) (many : length records ≡ 97) where
  trailer_is : get_or (commissioned records) trailer_number [] ≡ replicate 128 0
  trailer_is = get_or-set_same records trailer_number (replicate 128 0) [] (omega arith)

  none_kept : (card : List ℕ) → or_none (kept_timers card (commissioned records)) ≡ no_timers
  none_kept card =
      let none : trailer_count (commissioned records) ≡ 0 = ap (λ r. get_or r 8 0) trailer_is in
      cond_both (bytes_eq card (trailer_card (commissioned records)) && leb (trailer_count (commissioned records)) trailer_number)
      (loaded (last_records (trailer_count (commissioned records)) (commissioned records)) no_timers) None (λ o. or_none o ≡ no_timers)
      (λ _. ap (λ n. or_none (loaded (last_records n (commissioned records)) no_timers)) none) (λ _. refl)

  pub lived_none : (waiting : List (List ℕ)) → length waiting ≤ capacity → Lived waiting [] (begun waiting records).handset
  lived_none waiting few = record {
    waiting_is = refl;
    few = few;
    many = length-set records trailer_number (replicate 128 0) ∙ many;
    power = record {
      unlit = refl;
      sound = λ card _ kind. subst (λ t. Sound kind (table kind t)) (sym (none_kept card)) (free_sound kind);
      restores = λ card _ kind k. ap (λ t. timer_on (table kind t) k) (none_kept card) ∙ free_timer kind k
          ∙ cond_both (bytes_eq card []) timer.Stopped timer.Stopped (λ t. timer.Stopped ≡ t) (λ _. refl) (λ _. refl);
    };
  }

-- a call that the power state has leads on and keeps the law; any other, and a look, changes nothing
abbrev pub Goes_on : List (List ℕ) → List Moment → Said → Handset → Type 0
Goes_on before h c x = ((available (step c x).answer ≡ false) × ((step c x).after ≡ x)) ⊎ Leads before h c (step c x)

module _ (before : List (List ℕ)) (h : List Moment) where
  on_more : (c : Said) (s : StateView) (q rs : List (List ℕ)) → Lived before h (record { state = Some s; waiting = q; records = rs }) → lawful_call c ≡ true → Goes_on before h c (record { state = Some s; waiting = q; records = rs })
  on_more (switch_on card network reading off) s q rs d l = inl (refl, refl)
  on_more switch_off s q rs d l = inr (off_leads before h s q rs d)
  on_more (establish j type slice name) s q rs d l = inr (establish_leads before h s q rs d j type slice name)
  on_more (modify j) s q rs d l = inr (modify_leads before h s q rs d j)
  on_more (release j) s q rs d l = inr (release_leads before h s q rs d j)
  on_more (take_in octets) s q rs d l = inr (take_in_leads before h s q rs d octets)
  on_more (time_reading r) s q rs d l = inr (reading_leads before h s q rs d r)
  on_more (change_network network) s q rs d l = inr (network_leads before h s q rs d network (eqb-true (length network) 3 l))
  on_more (network_take n) s q rs d l = inr (take_leads before h s q rs d n)
  on_more (look slice name) s q rs d l = inl (refl, refl)

  off_more : (c : Said) (q rs : List (List ℕ)) → Lived before h (record { state = None; waiting = q; records = rs }) → lawful_call c ≡ true → Goes_on before h c (record { state = None; waiting = q; records = rs })
  off_more (switch_on card network reading off) q rs d l =
      let p = and_parts (eqb (length card) 8) (eqb (length network) 3) l in
      inr (on_leads before h q rs d card network reading off (eqb-true (length card) 8 p.0) (eqb-true (length network) 3 p.1))
  off_more switch_off q rs d l = inl (refl, refl)
  off_more (establish j type slice name) q rs d l = inl (refl, refl)
  off_more (modify j) q rs d l = inl (refl, refl)
  off_more (release j) q rs d l = inl (refl, refl)
  off_more (take_in octets) q rs d l = inl (refl, refl)
  off_more (time_reading r) q rs d l = inl (refl, refl)
  off_more (change_network network) q rs d l = inl (refl, refl)
  off_more (network_take n) q rs d l = inr (dark_take_leads before h q rs d n)
  off_more (look slice name) q rs d l = inl (refl, refl)

  more_by : (c : Said) (o : Option StateView) (q rs : List (List ℕ)) → Lived before h (record { state = o; waiting = q; records = rs }) → lawful_call c ≡ true → Goes_on before h c (record { state = o; waiting = q; records = rs })
  more_by c None q rs d l = off_more c q rs d l
  more_by c (Some s) q rs d l = on_more c s q rs d l

  pub lived_more : (c : Said) (x : Handset) → Lived before h x → lawful_call c ≡ true → Goes_on before h c x
  lived_more c x d l = more_by c x.state x.waiting x.records d l

-- a life so far that keeps the law, and its handset
pub record Lasts (before : List (List ℕ)) (l : Life) : Type 0 where
  pub law : Law before l.moments
  pub lives : Lived before l.moments l.handset

pub lasts_none : (waiting records : List (List ℕ)) → length waiting ≤ capacity → length records ≡ 97 → Lasts waiting (begun waiting records)
lasts_none waiting records few many = record { law = tt; lives = lived_none records many waiting few }

module _ (before : List (List ℕ)) where
  -- one step more: it leads on, or leaves no moment and changes nothing
  stays : (l : Life) (c : Said) (x : Step) → Lasts before l → (available x.answer ≡ false) × (x.after ≡ l.handset) → Lasts before (lived_on c x l)
  stays l c x d away = record {
    law = subst (λ b. Law before (cond b (moment_of c x ∷ l.moments) l.moments)) (sym away.0) d.law;
    lives = subst (λ b. Lived before (cond b (moment_of c x ∷ l.moments) l.moments) x.after) (sym away.0) (subst (Lived before l.moments) (sym away.1) d.lives);
  }

  goes : (l : Life) (c : Said) (x : Step) → Lasts before l → Leads before l.moments c x → Lasts before (lived_on c x l)
  goes l c x d k = record {
    law = subst (λ b. Law before (cond b (moment_of c x ∷ l.moments) l.moments)) (sym k.there) (k.law, d.law);
    lives = subst (λ b. Lived before (cond b (moment_of c x ∷ l.moments) l.moments) x.after) (sym k.there) k.lives;
  }

  -- one call more, of lawful form or not
  pub lasts_more : (l : Life) (c : Said) → Lasts before l → Lasts before (called l c)
  lasts_more l c d =
      cond_both (lawful_call c) (step c l.handset) (not_available l.handset) (λ x. Lasts before (lived_on c x l))
      (λ ok. ⊎_elim (stays l c (step c l.handset) d) (goes l c (step c l.handset) d) (lived_more before l.moments c l.handset d.lives ok))
      (λ no. stays l c (not_available l.handset) d (refl, refl))

  pub lasts_all : (script : List Said) (l : Life) → Lasts before l → Lasts before (fold called l script)
  lasts_all [] l d = d
  lasts_all (c ∷ cs) l d = lasts_all cs (called l c) (lasts_more l c d)

-- the calls of a script, one after the other
pub life_more : (script : List Said) (waiting records : List (List ℕ)) (i : ℕ) (c : Said) → i < length script → life (take (i + 1) script) waiting records ≡ called (life (take i script) waiting records) (get_or script i c)
life_more script waiting records i c l = fold_more called (begun waiting records) script i c l

pub every_life : EveryLife
every_life script waiting records few many = (lasts_all waiting script (begun waiting records) (lasts_none waiting records few many)).law
