-- What the fields of a run with a log say, and what holds of them (own).
use Rattle.std.specs.Prelude.{◌≡◌}
use Rattle.tw_seq.specs.declared.logged_run.LoggedRun.TheInside.{Inside}
use Rattle.tw_seq.specs.Run.{IsBegun, Run}

-- the run that the fields stand for
abbrev pub logged_run : Inside → Run
logged_run a = a.run

-- the list has the events that the run has handled
pub record IsLogged (a : Inside) : Type 0 where
  -- it is a prefix of the sequential run
  pub begun : IsBegun a.run
  pub log : a.events.items ≡ a.run.events
