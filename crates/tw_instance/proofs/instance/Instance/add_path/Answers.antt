use Rattle.std.proofs.Common.{◌≡◌, ℕ, ◌+◌, [], ◌∷◌, ◌++◌, None, drop, length, ap, subst, sym, ◌∙◌, arith}
use Rattle.std.specs.List.{All}
use Rattle.std.proofs.lemmas.List.Elements.{All-nil}
use Rattle.tw_event.specs.declared.event.PathNo.{PathNo}
use Rattle.tw_model.specs.PermittedPath.{PermittedPath}
use Rattle.tw_model.specs.Net.{paths_of}
use Rattle.tw_model.specs.Rules.{IsNet, path_fault}
use Rattle.tw_instance.specs.Index.{IsIndex}
use Rattle.tw_instance.specs.Instance.{net_of}
use Rattle.tw_instance.specs.Places.{ArePlaces}
use Rattle.tw_instance.specs.Tables.{IsTable, hash, items, push_at, tail_hashes_of}
use Rattle.tw_instance.proofs.Growing.{next_tables}
use Rattle.tw_instance.proofs.Permitted.{few_permitted}
use Rattle.tw_instance.proofs.Placed.{pushed_places}
use Rattle.tw_instance.proofs.Links.{hops_alike}
use Rattle.tw_instance.proofs.Rows.{table_as, table_in, table_same}
use Rattle.tw_instance.proofs.instance.Instance.add_path.Goals as goal

pub overflow_cast-number : goal.overflow_cast-number
overflow_cast-number c =
    let few = few_permitted (net_of c.self.inside) c.self.invariant.net in
    let n = c.self.inside.paths.ok.0 in
    omega (arith, c.len.ensures)

pub overflow_add-number : goal.overflow_add-number
overflow_add-number c =
    let few = few_permitted (net_of c.self.inside) c.self.invariant.net in
    let n = c.self.inside.paths.ok.0 in
    omega (arith, c.len.ensures)

pub invariant_of-self-in_err-push_path : goal.invariant_of-self-in_err-push_path
invariant_of-self-in_err-push_path c =
    let a = c.self.inside in
    let net = net_of a in
    let so = c.self.invariant in
    let numbers = c.push_path.new.numbers in
    let hashes = c.push_path.new.hashes in
    let same_paths = table_same a.permitted.items numbers a.nodes (paths_of net) (c.in_err-push_path.ensures.err.0 ∙ ap items c.deref_mut.ensures.value) so.permitted in
    let same_hashes = table_same a.tail_hashes.items hashes a.nodes (tail_hashes_of net) (c.in_err-push_path.ensures.err.1 ∙ ap items c.deref_mut-2.ensures.value) so.tail_hashes in
    let kept = λ (v : ℕ). ap (λ ls. paths_of (record net { permitted = ls }) v) (sym c.in_ok-reserve.ensures.items) in
    let hashes_alike = λ (v : ℕ). ap (λ ls. tail_hashes_of (record net { permitted = ls }) v) (sym c.in_ok-reserve.ensures.items) in
    record {
      net = subst (λ ls. IsNet (record net { permitted = ls })) (sym c.in_ok-reserve.ensures.items) so.net;
      hops = table_as a.hops.items a.nodes so.hops (λ v. sym (hops_alike net c.reserve.new.self.items v));
      adjacency = record { square = so.adjacency.square; cells = so.adjacency.cells };
      permitted = table_as _ a.nodes (table_in a.permitted numbers a.nodes (paths_of net) (paths_of net) so.permitted same_paths) kept;
      tail_hashes = table_as _ a.nodes (table_in a.tail_hashes hashes a.nodes (tail_hashes_of net) (tail_hashes_of net) so.tail_hashes same_hashes) hashes_alike;
      places = subst (ArePlaces (record net { permitted = c.reserve.new.self.items })) (sym c.in_ok-reserve-2.ensures.items)
          (subst (λ ls. ArePlaces (record net { permitted = ls }) a.places.items) (sym c.in_ok-reserve.ensures.items) so.places);
      index = subst (λ ls. All (IsIndex (record net { permitted = ls })) a.index.items) (sym c.in_ok-reserve.ensures.items) so.index;
    }

pub invariant_of-self-2 : goal.invariant_of-self-2
invariant_of-self-2 c =
    let a = c.self.inside in
    let net = net_of a in
    let so = c.self.invariant in
    let p = c.args.path in
    let q : PathNo = record { 0 = c.len.result + 2 } in
    let k = c.tail_hash-hash.result in
    let paths = c.push_reserved-2.new.self.items in
    let old = c.deref_mut.result.now in
    let old_hashes = c.deref_mut-2.result.now in
    let numbers = c.push_path.new.numbers in
    let hashes = c.push_path.new.hashes in
    let fault : path_fault net p ≡ None = subst (λ n. path_fault n p ≡ None) (sym c.self.view_is) (sym c.path_fault.ensures ∙ c.in_default.is) in
    let pushed = c.push_reserved-2.ensures.items ∙ ap (λ ls. ls ++ p ∷ []) c.in_ok-reserve.ensures.items in
    let number : c.len.result + 2 ≡ length net.permitted + 2 = (let n = a.paths.ok.0 in omega (arith, c.len.ensures)) in
    let tail = c.tail_hash-hash.ensures ∙ ap (λ ns. hash (drop 1 ns)) (c.deref.ensures.value ∙ ap (λ (l : PermittedPath). l.nodes) c.path.view_is) in
    let table = subst (λ t. IsTable t a.nodes (paths_of net)) (sym c.deref_mut.ensures.value) so.permitted in
    let hash_table = subst (λ t. IsTable t a.nodes (tail_hashes_of net)) (sym c.deref_mut-2.ensures.value) so.tail_hashes in
    let listed = subst (λ l. items numbers ≡ push_at (items old) l.owner q) c.path.view_is c.in_ok-push_path.ensures.numbers in
    let hashed = subst (λ l. items hashes ≡ push_at (items old_hashes) l.owner k) c.path.view_is c.in_ok-push_path.ensures.hashes in
    let place = length c.permitted.result.now in
    let here : place ≡ length (paths_of net p.owner) =
    ap length (c.permitted.ensures.value ∙ (ap (λ n. paths_of n c.path.inside.owner) (sym c.self.view_is) ∙ ap (λ (l : PermittedPath). paths_of net l.owner) c.path.view_is)) in
    let placed = c.push_reserved.ensures.items ∙ ap (λ ks. ks ++ place ∷ []) c.in_ok-reserve-2.ensures.items in
    let places = subst (λ ls. ArePlaces (record net { permitted = ls }) c.push_reserved.new.self.items) (sym pushed)
    (subst (ArePlaces (record net { permitted = net.permitted ++ p ∷ [] })) (sym placed) (pushed_places net p a.places.items place fault so.places here)) in
    let more = next_tables net p old numbers old_hashes hashes paths q k so.net fault pushed number tail table hash_table listed hashed in
    record {
      net = more.kept;
      hops = table_as a.hops.items a.nodes so.hops (λ v. sym (hops_alike net paths v));
      adjacency = record { square = so.adjacency.square; cells = so.adjacency.cells };
      permitted = table_in a.permitted numbers a.nodes (paths_of net) (paths_of (record net { permitted = paths })) so.permitted more.path_rows;
      tail_hashes = table_in a.tail_hashes hashes a.nodes (tail_hashes_of net) (tail_hashes_of (record net { permitted = paths })) so.tail_hashes more.hash_rows;
      places = places;
      index = subst (All (IsIndex (record net { permitted = paths }))) (sym c.clear.ensures.items) (All-nil (IsIndex (record net { permitted = paths })));
    }
