-- What `upgrade` writes (own).
use Rattle.std.specs.Prelude.{ℕ, List}
use Rattle.tw_commands.specs.declared.cause.Status.TheVariants.{Done}
use Rattle.tw_commands.specs.ForCase.{for_case}
use Rattle.tw_commands.specs.Output.{Output}
use Rattle.tw_model.specs.Case.{Case}
use Rattle.tw_text.specs.Reading.{case_of}
use Rattle.tw_text.specs.Text.{text_of_case}
use Rattle.tw_text.specs.Upgraded.{upgraded}

-- the text of the case in the latest version
abbrev pub upgraded_text : Case → Output
upgraded_text case = record { status = Done; text = text_of_case (upgraded case) }

-- the case of a text, in the latest version, or why it has none
abbrev pub upgrade_output : List ℕ → Output
upgrade_output input = for_case upgraded_text (case_of input)
