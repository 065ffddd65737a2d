use Rattle.std.proofs.Common.{◌≡◌, [], ◌∷◌, ◌++◌, None, ap, refl, subst, sym, ◌∙◌}
use Rattle.std.specs.List.{All}
use Rattle.std.proofs.lemmas.List.Elements.{All-nil}
use Rattle.tw_model.specs.Net.{hops_of}
use Rattle.tw_model.specs.Rules.{IsNet, link_fault}
use Rattle.tw_model.proofs.Grown.{net_with_link}
use Rattle.tw_instance.specs.Index.{IsIndex}
use Rattle.tw_instance.specs.Instance.{net_of}
use Rattle.tw_instance.specs.Tables.{IsTable, items}
use Rattle.tw_instance.specs.Adjacency.{IsAdjacency}
use Rattle.tw_instance.proofs.Matrix.{joined_matrix, matrix_in}
use Rattle.tw_instance.proofs.Growing.{hashes_kept, linked_table, paths_kept}
use Rattle.tw_instance.proofs.Links.{next_link}
use Rattle.tw_instance.proofs.Placed.{linked_places}
use Rattle.tw_instance.proofs.Rows.{table_as, table_in, table_same}
use Rattle.tw_instance.proofs.instance.Instance.add_link.Goals as goal

pub invariant_of-self-2 : goal.invariant_of-self-2
invariant_of-self-2 c =
    let a = c.self.inside in
    let net = net_of a in
    let so = c.self.invariant in
    let l = c.args.link in
    let links = c.push_reserved.new.self.items in
    let fault : link_fault net l ≡ None = subst (λ n. link_fault n l ≡ None) (sym c.self.view_is) (sym c.link_fault.ensures ∙ c.in_default.is) in
    let pushed = c.push_reserved.ensures.items ∙ ap (λ ls. ls ++ l ∷ []) c.in_ok-reserve.ensures.items in
    let old = subst (λ t. IsTable t a.nodes (hops_of net)) (sym c.deref_mut.ensures.value) so.hops in
    let more = linked_table net l links c.deref_mut.result.now c.join.new.rows fault pushed old c.in_ok-join.ensures.ok in
    let good = (next_link net l fault).good in
    let matrix = subst (IsAdjacency net) (sym c.deref_mut-2.ensures.value) so.adjacency in
    record {
      net = subst (λ ls. IsNet (record net { links = ls })) (sym pushed) (net_with_link net l so.net fault);
      hops = table_in a.hops c.join.new.rows a.nodes (hops_of net) (hops_of (record net { links = links })) so.hops more;
      adjacency = matrix_in net (record net { links = links }) a.adjacency c.join-2.new.rows refl so.adjacency
          (joined_matrix net l c.deref_mut-2.result.now c.join-2.new.rows links good.first good.second pushed matrix c.join-2.ensures);
      permitted = table_as a.permitted.items a.nodes so.permitted (λ v. sym (paths_kept net links v));
      tail_hashes = table_as a.tail_hashes.items a.nodes so.tail_hashes (λ v. sym (hashes_kept net links v));
      places = linked_places net links a.places.items so.places;
      index = subst (All (IsIndex (record net { links = links }))) (sym c.clear.ensures.items) (All-nil (IsIndex (record net { links = links })));
    }

pub invariant_of-self-in_err-join : goal.invariant_of-self-in_err-join
invariant_of-self-in_err-join c =
    let a = c.self.inside in
    let net = net_of a in
    let so = c.self.invariant in
    let links = c.reserve.new.self.items in
    let same = c.in_ok-reserve.ensures.items in
    let hops = table_same a.hops.items c.join.new.rows a.nodes (hops_of net) (c.in_err-join.ensures.err ∙ ap items c.deref_mut.ensures.value) so.hops in
    record {
      net = subst (λ ls. IsNet (record net { links = ls })) (sym same) so.net;
      hops = table_as _ a.nodes (table_in a.hops c.join.new.rows a.nodes (hops_of net) (hops_of net) so.hops hops) (λ v. ap (λ ls. hops_of (record net { links = ls }) v) (sym same));
      adjacency = subst (λ ls. IsAdjacency (record net { links = ls }) a.adjacency.items) (sym same) so.adjacency;
      permitted = table_as a.permitted.items a.nodes so.permitted (λ v. sym (paths_kept net links v));
      tail_hashes = table_as a.tail_hashes.items a.nodes so.tail_hashes (λ v. sym (hashes_kept net links v));
      places = linked_places net links a.places.items so.places;
      index = subst (λ ls. All (IsIndex (record net { links = ls })) a.index.items) (sym same) so.index;
    }
