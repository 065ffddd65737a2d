use Rattle.std.proofs.Common.{◌≡◌, ◌+◌, ◌<◌, ◌++◌, get_or, length, set, length-set, if◌then◌else◌, refl, ap, ◌∙◌, arith}
use Rattle.std.specs.Prelude.{is_ok}
use Rattle.tw_warp.specs.Flight.{all_of}
use Rattle.tw_warp.proofs.InChunks.{joined_at, same_at}
use Rattle.tw_warp.proofs.chunks.join.Goals as goal

pub returns-then-is_ok : goal.returns-then-is_ok
returns-then-is_ok c =
    let k = c.args.place in
    let fits = c.args.chunks.now.ok.0 in
    let count = c.len.ensures in
    let last = c.len-else-place-len.ensures in
    let here = c.if-place-len.false in
    let more = c.if-place-len-2.false in
    let within : k < length c.args.chunks.now.items = omega arith in
    let after : k + 1 < length c.args.chunks.now.items = omega arith in
    let reserved = set c.args.chunks.now.items k c.reserve.new.self in
    let first = c.index_mut-then-is_ok.result.now in
    let stays = c.index_mut-then-is_ok.ensures.value ∙ ap (λ cs. get_or cs k first) c.remove-next.ensures.items in
    let appended : c.append.new.self.items ≡ first.items ++ c.remove-next.result.items =
    c.append.ensures.items ∙ ap (λ r. if is_ok r then first.items ++ c.remove-next.result.items else first.items) c.unwrap.ensures in
    ap (λ cs. all_of (set cs k c.append.new.self)) c.remove-next.ensures.items
    ∙ (joined_at reserved k (k + 1) first c.remove-next.result c.append.new.self refl (let same = length-set c.args.chunks.now.items k c.reserve.new.self in omega arith)
    (appended
    ∙ (λ i. (stays i).items ++ (c.remove-next.ensures.value i).items))
    ∙ same_at c.args.chunks.now.items k c.index_mut.result.now c.reserve.new.self within (c.reserve.ensures.items ∙ ap (λ v. v.items) c.index_mut.ensures.value))

pub returns-else-is_ok : goal.returns-else-is_ok
returns-else-is_ok c =
    same_at c.args.chunks.now.items c.args.place c.index_mut.result.now c.reserve.new.self (let fits = c.args.chunks.now.ok.0 in let count = c.len.ensures in let here = c.if-place-len.false in omega arith)
    (c.reserve.ensures.items ∙ ap (λ v. v.items) c.index_mut.ensures.value)
