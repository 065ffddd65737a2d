use Rattle.std.proofs.Common.{ℕ, ◌≡◌, ◌+◌, ◌<◌, ◌≤◌, ◌∙◌, ◌⊎◌, true, ap, arith, get_or, inl, length, set, suc, subst, sym}
use Rattle.std.specs.List.{All, range_with_len}
use Rattle.std.proofs.lemmas.List.{length-set}
use Rattle.std.proofs.lemmas.List.FromFn.{length-map-range_with_len}
use Rattle.std.specs.Vec.{vec_len}
use Rattle.tw_sim.proofs.Members.{all_from_in, in_range}
use Rattle.tw_model.specs.Net.{hops_of}
use Rattle.tw_elimination.specs.Placing.{GoesOnNext, IsNextToPlace, PlacesNothing, are_placed, count_of, counts_after, has_router}
use Rattle.tw_elimination.proofs.Ring.{all_more}
use Rattle.tw_elimination.proofs.Worklist.{all_at_work, all_placed, all_popped, fewer_left, left_to_place, none_waits, nothing_left, one_longer, reached_more, same_there, waits_more}
use Rattle.tw_elimination.proofs.placing.has_one_list.Goals as goal

pub loop-router-init : goal.loop-router-init
loop-router-init c =
    let net = c.args.instance.now in
    record {
      is = c.all_routers.ensures.net;
      long = ap length c.in_ok-placed.ensures ∙ length-map-range_with_len (λ (v : ℕ). 0) 0 net.nodes;
      homes = subst (All (λ v. v < net.nodes)) (sym c.in_ok-work.ensures.items) (all_from_in (λ v. v < net.nodes) (range_with_len 0 net.nodes) (λ v i. let low = in_range v 0 net.nodes i in omega arith));
      reached = (0, λ v. let same = ap (λ xs. get_or xs v 0) c.in_ok-placed.ensures in omega arith);
      waits = λ v low. inl (subst (λ ws. has_router ws v ≡ true) (sym c.in_ok-work.ensures.items) (all_at_work v net.nodes low));
    }

pub index_mut-requires : goal.index_mut-requires
index_mut-requires c =
    let inv = c.loop-router.invariant in
    let home = (all_popped (λ v. v < c.args.instance.now.nodes) c.loop-router.work.items c.pop.new.self.items c.in-Some.router c.in-Some.ensures.items inv.homes).1 in
    let len = c.deref.ensures.len in
    let same = ap length c.deref.ensures.value in
    let long = inv.long in
    omega arith

pub overflow_add-index_mut : goal.overflow_add-index_mut
overflow_add-index_mut c =
    let net = c.args.instance.now in
    let inv = c.loop-router.invariant in
    let v = c.in-Some.router in
    let placed = c.loop-router.placed.items in
    let home = (all_popped (λ v. v < net.nodes) c.loop-router.work.items c.pop.new.self.items v c.in-Some.ensures.items inv.homes).1 in
    let within : v < length placed = (let long = inv.long in omega arith) in
    let few : count_of net placed v < 200 = subst (λ xs. count_of net xs v < 200) c.deref.ensures.value c.in-Some-next_path.ensures.few in
    let value : c.index_mut.result.now ≡ count_of net placed v = c.index_mut.ensures.value ∙ same_there placed v c.index_mut.result.now 0 within in
    omega arith

pub loop-router-smaller-in-Continue-branch-4 : goal.loop-router-smaller-in-Continue-branch-4
loop-router-smaller-in-Continue-branch-4 c =
    let net = c.args.instance.now in
    let inv = c.loop-router.invariant in
    let v = c.in-Some.router in
    let placed = c.loop-router.placed.items in
    let rest = c.pop.new.self.items in
    let home = (all_popped (λ v. v < net.nodes) c.loop-router.work.items rest v c.in-Some.ensures.items inv.homes).1 in
    let within : v < length placed = (let long = inv.long in omega arith) in
    let next : IsNextToPlace net placed v c.in-Some-next_path.path = subst (λ xs. IsNextToPlace net xs v c.in-Some-next_path.path) c.deref.ensures.value c.in-Some-next_path.ensures.some in
    let old_long = one_longer rest c.loop-router.work.items v c.in-Some.ensures.items in
    let mid_long = one_longer rest c.push.new.self.items v c.in_ok-push.ensures.items in
    let few = c.in_ok-push_waiting.ensures.few in
    let value : c.index_mut.result.now ≡ count_of net placed v = c.index_mut.ensures.value ∙ same_there placed v c.index_mut.result.now 0 within in
    let less : left_to_place net (set placed v (c.index_mut.result.now + 1)) < left_to_place net placed
    = subst (λ n. left_to_place net (set placed v (n + 1)) < left_to_place net placed) (sym value) (fewer_left net inv.is placed v c.in-Some-next_path.path within home next) in
    omega arith

pub loop-router-preserved-in-Continue-branch-4 : goal.loop-router-preserved-in-Continue-branch-4
loop-router-preserved-in-Continue-branch-4 c =
    let net = c.args.instance.now in
    let inv = c.loop-router.invariant in
    let v = c.in-Some.router in
    let q = c.in-Some-next_path.path in
    let placed = c.loop-router.placed.items in
    let rest = c.pop.new.self.items in
    let homes = all_popped (λ v. v < net.nodes) c.loop-router.work.items rest v c.in-Some.ensures.items inv.homes in
    let home = homes.1 in
    let within : v < length placed = (let long = inv.long in omega arith) in
    let next : IsNextToPlace net placed v q = subst (λ xs. IsNextToPlace net xs v q) c.deref.ensures.value c.in-Some-next_path.ensures.some in
    let value : c.index_mut.result.now ≡ count_of net placed v = c.index_mut.ensures.value ∙ same_there placed v c.index_mut.result.now 0 within in
    let after : set placed v (c.index_mut.result.now + 1) ≡ set placed v (count_of net placed v + 1) = ap (λ n. set placed v (n + 1)) value in
    let now : c.deref-in-Some-next_path.result.now ≡ set placed v (count_of net placed v + 1) = c.deref-in-Some-next_path.ensures.value ∙ after in
    let waiting = subst (λ xs. All (λ h. GoesOnNext net xs q h.peer → has_router c.push_waiting.new.work.items h.peer ≡ true) (hops_of net v)) now c.in_ok-push_waiting.ensures.waiting in
    record {
      is = inv.is;
      long = length-set placed v (c.index_mut.result.now + 1) ∙ inv.long;
      homes = c.in_ok-push_waiting.ensures.homes (all_more (λ v. v < net.nodes) rest c.push.new.self.items v c.in_ok-push.ensures.items homes.0 home);
      reached = subst (λ xs. (n : ℕ) × ((u : ℕ) → count_of net xs u ≤ count_of net (counts_after net n) u)) (sym after)
          (suc inv.reached.0, reached_more net inv.is placed v q within home next inv.reached.0 inv.reached.1);
      waits = subst (λ xs. (u : ℕ) → u < net.nodes → (has_router c.push_waiting.new.work.items u ≡ true) ⊎ PlacesNothing net xs u) (sym after)
          (waits_more net inv.is placed v q within home next c.loop-router.work.items rest c.push.new.self.items c.push_waiting.new.work.items c.in-Some.ensures.items
          c.in_ok-push.ensures.items c.in_ok-push_waiting.ensures.kept waiting inv.waits);
    }

pub returns : goal.returns
returns c =
    let net = c.args.instance.now in
    let inv = c.loop-router.invariant in
    let over = nothing_left c.loop-router.work.items c.pop.new.self.items (vec_len c.loop-router.work) c.in_default.ensures.items c.in_default.ensures.rest c.in_default.ensures.cases.0 in
    c.are_all_placed.ensures ∙ (ap (are_placed net) c.deref-2.ensures.value
    ∙ all_placed net inv.is c.loop-router.placed.items (none_waits net c.loop-router.placed.items c.loop-router.work.items over inv.waits) inv.reached.0 inv.reached.1)
