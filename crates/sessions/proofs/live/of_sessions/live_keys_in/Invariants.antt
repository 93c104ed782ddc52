use Rattle.std.proofs.Common.{◌≡◌, ◌≤◌, ◌++◌, map, length, drop}
use Rattle.sessions.specs.Live.{listed, live_keys}
use Rattle.sessions.specs.Table.{views}
use Rattle.sessions.proofs.live.of_sessions.live_keys_in.Given as goal

-- the keys so far, and those of the sessions that are left
abbrev pub invariant-loop-session : goal.invariant-loop-session
invariant-loop-session g l =
    let keys = live_keys g.K.SessionKey.part in
    (length (listed l.keys) ≤ l.session-index) × (map g.K.Key.octets (listed l.keys) ++ keys (views (drop l.session-index l.sessions)) ≡ keys (views l.sessions))
