use Rattle.std.proofs.Common.{map, refl}
use Rattle.clap.specs.Words.{app_of}
use Rattle.tw_phold_options.specs.App.{phold_app}
use Rattle.tw_phold_options.specs.Fit.{Fits}
use Rattle.tw_phold_options.specs.Says.{Says}
use Rattle.tw_options.proofs.Faults.{explains_err, taken}
use Rattle.tw_phold_options.proofs.Fit.{all_fit, free, long_version, short_version, simple}
use Rattle.tw_options.proofs.Levels.{matches_fit, words_say}
use Rattle.tw_options.proofs.Version.{not_taken, version_told}
use Rattle.tw_phold_options.proofs.options.Goals as goal

pub returns-in_err-matches-clause-fault : goal.returns-in_err-matches-clause-fault
returns-in_err-matches-clause-fault g c =
    explains_err phold_app free (app_of c.in_ok-twarp_phold.field-0) (map g.S.AsStr.text c.args.words.now) c.in_err-matches.field-0.0
    c.from_residual-in_err-matches.result c.in_ok-twarp_phold.ensures c.in_err-matches.ensures.kinds
    c.from_residual-in_err-matches.ensures.1

pub returns-in_err-matches-clause-version : goal.returns-in_err-matches-clause-version
returns-in_err-matches-clause-version g c asks =
    version_told phold_app long_version short_version (map g.S.AsStr.text c.args.words.now) _ c.from_residual-in_err-matches.result asks
    c.from_residual-in_err-matches.ensures.1 (returns-in_err-matches-clause-fault g c)

pub returns-clause-taken : goal.returns-clause-taken
returns-clause-taken g c =
    taken phold_app free (app_of c.in_ok-twarp_phold.field-0) (map g.S.AsStr.text c.args.words.now) c.in_ok-twarp_phold.ensures c.in_ok-matches.ensures.kinds

pub command_line_of-requires : goal.command_line_of-requires
command_line_of-requires g c =
    let words = map g.S.AsStr.text c.args.words.now in
    matches_fit phold_app Fits all_fit refl refl simple (app_of c.in_ok-twarp_phold.field-0) words c.in_ok-matches.matches c.in_ok-twarp_phold.ensures
    c.in_ok-matches.ensures.matches
    (taken phold_app free (app_of c.in_ok-twarp_phold.field-0) words c.in_ok-twarp_phold.ensures c.in_ok-matches.ensures.kinds)

pub returns-clause-says : goal.returns-clause-says
returns-clause-says g c =
    words_say phold_app Fits all_fit refl refl simple (app_of c.in_ok-twarp_phold.field-0) (map g.S.AsStr.text c.args.words.now) c.in_ok-matches.matches
    c.in_ok-twarp_phold.ensures c.in_ok-matches.ensures.matches (λ found. Says found c.command_line_of.result) c.command_line_of.ensures

pub returns-clause-version : goal.returns-clause-version
returns-clause-version g c asks = not_taken phold_app long_version short_version (map g.S.AsStr.text c.args.words.now) asks (returns-clause-taken g c)
