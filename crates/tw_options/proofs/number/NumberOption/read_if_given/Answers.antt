use Rattle.std.specs.Str.Parse.{ExplainsUnsignedError, HasUnsignedDigitsIfOk, ParsesUnsigned}
use Rattle.clap.specs.Words.{found_of}
use Rattle.tw_options.proofs.Read.{gives_if_given}
use Rattle.tw_options.proofs.number.NumberOption.read_if_given.Goals as goal

pub returns : goal.returns
returns c =
    gives_if_given _ (λ u x. ParsesUnsigned 64 10 u x × ExplainsUnsignedError 10 u x × HasUnsignedDigitsIfOk u x) (found_of c.args.given.now)
    c.args.self.id.now c.args.self.least c.args.self.most c.get_one.result (λ u x h. h.0) c.get_one.ensures.none c.get_one.ensures.value c.requires
