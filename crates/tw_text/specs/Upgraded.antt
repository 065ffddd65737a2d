-- A case in the latest version of the text (own).
use Rattle.tw_model.specs.Case.{Case}
use Rattle.tw_model.specs.declared.limits.TheConstants.{LATEST_VERSION}

-- the case in the latest version: the same instance and the same scenario
abbrev pub upgraded : Case → Case
upgraded case = record case { version = LATEST_VERSION }
