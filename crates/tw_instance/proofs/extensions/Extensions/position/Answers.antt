use Rattle.std.proofs.Common.{arith, ◌+◌, ◌==◌, get_or, ap, sym, ◌∙◌}
use Rattle.std.specs.List.{position}
use Rattle.tw_instance.proofs.Extending.{finds_extension, finds_none}
use Rattle.tw_instance.proofs.Sparse.{read_cut, read_start}
use Rattle.tw_instance.proofs.extensions.Extensions.position.Goals as goal

pub returns-in_err-place-clause-none : goal.returns-in_err-place-clause-none
returns-in_err-place-clause-none c net h is q e =
    let t = c.args.self.now in
    let row = read_cut t.starts.items c.args.number.0 c.index.result.now c.index-2.result.now c.deref.result.now t.extensions.items
    c.requires.there c.index.ensures c.index-2.ensures c.deref.ensures.value in
    absurd (finds_none net t h c.args.number is c.args.node q (sym (c.in_err-place.ensures ∙ ap (position (λ e. e.node == c.args.node)) row)) e)

pub returns-clause-some : goal.returns-clause-some
returns-clause-some c net h is x at =
    let t = c.args.self.now in
    let row = read_cut t.starts.items c.args.number.0 c.index.result.now c.index-2.result.now c.deref.result.now t.extensions.items
    c.requires.there c.index.ensures c.index-2.ensures c.deref.ensures.value in
    let begin = read_start t.starts.items c.args.number.0 c.index.result.now (omega arith) c.index.ensures in
    finds_extension net t h c.args.number is c.args.node c.in_ok-place.place x (sym (c.in_ok-place.ensures ∙ ap (position (λ e. e.node == c.args.node)) row))
    (at ∙ ap (λ s. get_or t.numbers.items (s + c.in_ok-place.place) x) begin)
