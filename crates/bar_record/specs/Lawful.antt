-- A kept bar that is lawful.
use Rattle.std.specs.Prelude.{cond, Some, None, Option}
use Rattle.bar_record.specs.declared.lawful.LawfulBar.{LawfulBar}
use Rattle.bar_record.specs.Record.{Kept, kept_view, seconds_kept}

abbrev pub lawful_view : LawfulBar → Kept
lawful_view b = kept_view b.bar

-- a kept bar, where its seconds can be left of a running timer
abbrev pub if_lawful : Kept → Option Kept
if_lawful v = cond (seconds_kept v.seconds) (Some v) None
