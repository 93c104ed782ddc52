-- What a switched-on handset remembers, told by plain values.
use Rattle.std.specs.Prelude.{ℕ, List}
use Rattle.session.specs.Session.{SessionView}
use Rattle.sessions.specs.Table.{sessions_view}
use Rattle.timers.specs.declared.timers.methods.TimersOn.{TimersOn}
use Rattle.timers.specs.Timers.{TimersView, timers_view, timers_on}
use Rattle.requests.specs.declared.state.State.{State}
use Rattle.requests.specs.declared.state.Tally.{Tally}

pub record StateView : Type 0 where
  pub sessions : List SessionView
  pub timers : TimersView
  pub card : List ℕ
  pub network : List ℕ
  pub reading : ℕ
  pub last_pti : ℕ
  pub tally : Tally

abbrev pub state_view : State → StateView
state_view s = record {
  sessions = sessions_view s.sessions;
  timers = timers_view s.timers;
  card = s.card.octets;
  network = s.network.octets;
  reading = s.reading;
  last_pti = s.last_pti;
  tally = s.tally;
}

-- another network, and all else as it was
abbrev pub network_changed : List ℕ → StateView → StateView
network_changed network s = record {
  sessions = s.sessions;
  timers = s.timers;
  card = s.card;
  network = network;
  reading = s.reading;
  last_pti = s.last_pti;
  tally = s.tally;
}

-- the timers on the keys of a slice and a name in the current network
abbrev pub looked_up : StateView → List ℕ → List ℕ → TimersOn
looked_up s slice name = timers_on s.timers (record { network = s.network; slice = slice; name = name })

-- no request was let out yet
abbrev pub no_tally : Tally
no_tally = record { let_out = 0; accepted = 0; rejected = 0; returned = 0; overtaken = 0; given_up = 0 }
