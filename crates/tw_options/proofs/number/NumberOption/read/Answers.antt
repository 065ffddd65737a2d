use Rattle.std.specs.Str.Parse.{ExplainsUnsignedError, HasUnsignedDigitsIfOk, ParsesUnsigned}
use Rattle.clap.specs.Words.{found_of}
use Rattle.tw_options.proofs.Read.{gives, is_some_of, value_of}
use Rattle.tw_options.proofs.number.NumberOption.read.Goals as goal

pub unwrap-requires : goal.unwrap-requires
unwrap-requires c =
    let g = gives _ (λ u x. ParsesUnsigned 64 10 u x × ExplainsUnsignedError 10 u x × HasUnsignedDigitsIfOk u x) (found_of c.args.given.now)
    c.args.self.id.now c.args.self.least c.args.self.most c.get_one.result (λ u x h. h.0) c.get_one.ensures.value c.requires in
    is_some_of _ c.get_one.result g

pub returns : goal.returns
returns c =
    let g = gives _ (λ u x. ParsesUnsigned 64 10 u x × ExplainsUnsignedError 10 u x × HasUnsignedDigitsIfOk u x) (found_of c.args.given.now)
    c.args.self.id.now c.args.self.least c.args.self.most c.get_one.result (λ u x h. h.0) c.get_one.ensures.value c.requires in
    value_of _ c.get_one.result c.unwrap.result g c.unwrap.ensures
