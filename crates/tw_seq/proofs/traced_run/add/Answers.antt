use Rattle.std.proofs.Common.{◌∙◌, ◌++◌, ◌∷◌, [], Some, ap, refl, sym, subst, IfSome, arith}
use Rattle.std.specs.Option.{option_map}
use Rattle.tw_seq.specs.Traced.{HasRoom, push_at, retained}
use Rattle.tw_seq.proofs.Retained.{lists_push, room_is, room_within}
use Rattle.tw_seq.proofs.traced_run.add.Goals as goal

pub index_mut-requires : goal.index_mut-requires
index_mut-requires c =
    let room = subst (λ logs. IfSome logs (HasRoom c.args.event.now.dst)) c.in-Some.is c.requires in
    let within = room_within c.args.event.now.dst c.in-Some.logs.items room in
    let len = c.in-Some.logs.ok.0 in
    omega arith

pub push_reserved-requires : goal.push_reserved-requires
push_reserved-requires c =
    let room = subst (λ logs. IfSome logs (HasRoom c.args.event.now.dst)) c.in-Some.is c.requires in
    room_is c.args.event.now.dst c.in-Some.logs.items c.index_mut.result.now c.index_mut.ensures.value room

pub returns-in-Some : goal.returns-in-Some
returns-in-Some c =
    let e = c.args.event.now in
    let room = subst (λ logs. IfSome logs (HasRoom e.dst)) c.in-Some.is c.requires in
    let pushed = c.push_reserved.ensures.items ∙ ap (λ log. log.items ++ e ∷ []) c.index_mut.ensures.value in
    ap Some (lists_push c.in-Some.logs.items e.dst c.push_reserved.new.self c.index_mut.result.now e refl (room_within e.dst c.in-Some.logs.items room) pushed)
    ∙ ap (λ logs. option_map (λ lists. push_at lists e) (retained logs)) (sym c.in-Some.is)
