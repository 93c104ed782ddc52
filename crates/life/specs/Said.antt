-- The calls of a script told by plain values, and a handset by what it means.
use Rattle.std.specs.Prelude.{ℕ, Bool, true, false, List, Some, None}
use Rattle.std.specs.Option.{option_map}
use Rattle.handset.specs.declared.off.SwitchedOff.{SwitchedOff}
use Rattle.handset.specs.declared.switched_on.SwitchedOn.{SwitchedOn}
use Rattle.requests.specs.SoundViews.{sound_view}
use Rattle.rules.specs.Calls.{Said, switch_on, switch_off, establish, modify, release, take_in, time_reading, change_network, network_take, look, Handset}
use Rattle.life.specs.declared.call.Call.{Call}
use Rattle.life.specs.declared.call.Call.TheVariants.{SwitchOn, SwitchOff, Establish, Modify, Release, TakeIn, TimeReading, ChangeNetwork, NetworkTake, Look}
use Rattle.life.specs.declared.power.Power.{Power}
use Rattle.life.specs.declared.power.Power.TheVariants.{On, Off}

abbrev pub said : Call → Said
said (SwitchOn card network reading off) = switch_on card.now network.now reading off
said SwitchOff = switch_off
said (Establish identity type slice name) = establish identity type (option_map (λ x. x.now) slice) (option_map (λ x. x.now) name)
said (Modify identity) = modify identity
said (Release identity) = release identity
said (TakeIn octets) = take_in octets.now
said (TimeReading reading) = time_reading reading
said (ChangeNetwork network) = change_network network.now
said (NetworkTake room) = network_take room
said (Look slice name) = look (option_map (λ x. x.now) slice) (option_map (λ x. x.now) name)

-- a switched-on handset over an uplink and a keeper of these meanings
abbrev pub on_view : {U K : Type 0} → (U → List (List ℕ)) → (K → List (List ℕ)) → SwitchedOn U K → Handset
on_view waiting records h = record { state = Some (sound_view h.state); waiting = waiting h.uplink; records = records h.keeper }

abbrev pub off_view : {U K : Type 0} → (U → List (List ℕ)) → (K → List (List ℕ)) → SwitchedOff U K → Handset
off_view waiting records h = record { state = None; waiting = waiting h.uplink; records = records h.keeper }

abbrev pub power_view : {U K : Type 0} → (U → List (List ℕ)) → (K → List (List ℕ)) → Power U K → Handset
power_view waiting records (On h) = on_view waiting records h
power_view waiting records (Off h) = off_view waiting records h

-- only switching off ends the power state of a switched-on handset
abbrev pub switches_off : Said → Bool
switches_off (switch_on card network reading off) = false
switches_off switch_off = true
switches_off (establish identity type slice name) = false
switches_off (modify identity) = false
switches_off (release identity) = false
switches_off (take_in octets) = false
switches_off (time_reading reading) = false
switches_off (change_network network) = false
switches_off (network_take room) = false
switches_off (look slice name) = false
