use Rattle.std.proofs.Common.{refl}
use Rattle.sessions.specs.Ptis.{next_free}
use Rattle.worked.specs.Cases.{WorkedCases}
use Rattle.worked.proofs.worked_cases.Goals as goal

all : WorkedCases
unfolding next_free
all = record {
  a5 = refl;
  a0 = refl;
  e0 = refl;
  show_62 = refl;
  show_63 = refl;
  request_sent = refl;
  command_taken = refl;
  reply_sent = refl;
  waits_300 = refl;
  long_name = refl;
  off_299 = refl;
  off_300 = refl;
  backwards = refl;
  five_readings = refl;
}

pub returns : goal.returns
returns c = all
