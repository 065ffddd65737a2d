-- What the fields of a case say, and what holds of them (own).
use Rattle.std.specs.Prelude.{◌≡◌}
use Rattle.tw_model.specs.Case.{Case, IsCase, opening_events}
use Rattle.tw_instance.specs.declared.case.Case.TheInside.{Inside}

-- the case that the fields are: an instance with its scenes, in a version
abbrev pub case_of : Inside → Case
case_of a = record { version = a.version; net = a.instance; scenes = a.scenario.items }

-- the rules are kept, and the kept events are the opening events
pub record IsOpened (a : Inside) : Type 0 where
  pub case : IsCase (case_of a)
  pub opening : a.opening.items ≡ opening_events a.scenario.items
