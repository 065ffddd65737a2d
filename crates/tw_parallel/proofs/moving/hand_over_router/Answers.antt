use Rattle.std.proofs.Common.{◌≡◌, ℕ, ◌+◌, ◌-◌, ◌<◌, ◌==◌, ◌++◌, ◌∷◌, [], List, get_or, length, set, ap, sym, ◌∙◌, subst, arith}
use Rattle.std.proofs.lemmas.List.{get_or-set_other, get_or-set_same, get_or_default, length-set}
use Rattle.std.specs.List.{SwappedAt}
use Rattle.std.specs.Prelude.{if◌then◌else◌, OnErr, OnOk}
use Rattle.tw_parallel.proofs.PutBack.{both_err, both_ok, other_there, place_in, put_back, set_itself}
use Rattle.tw_parallel.specs.Moving.{AreLike, HasPassed}
use Rattle.tw_shard.specs.Moving.{HasMovedIn, HasMovedOut}
use Rattle.tw_shard.specs.Shard.{Shard, no_shard, owns}
use Rattle.tw_parallel.proofs.moving.hand_over_router.Goals as goal

module _ (c : goal.After-index_mut) where
  abbrev xs : List Shard
  xs = c.args.shards.now.items

  abbrev ys : List Shard
  ys = c.swap_remove-source.new.self.items

  abbrev last : ℕ
  last = c.len-last.result - 1

  -- how long the list was, and is without the shard that was taken out
  ends : (length xs ≡ last + 1) × (length ys ≡ last) × (c.args.from < last + 1) × (c.args.to < last + 1)
  ends =
      let len = c.len-last.ensures in
      let old = c.args.shards.now.ok.0 in
      let new = c.swap_remove-source.new.self.ok.0 in
      let less = c.swap_remove-source.ensures.len in
      let from = c.requires.ends.from_within in
      let to = c.requires.ends.to_within in
      ((omega arith), (omega arith), (omega arith), (omega arith))

  moved : (d : Shard) → c.args.from + 1 < last + 1 → get_or ys c.args.from d ≡ get_or xs last d
  moved d l =
      let len = c.len-last.ensures in
      let from = c.requires.ends.from_within in
      c.swap_remove-source.ensures.by_index.0 d (omega arith) ∙ ap (λ n. get_or xs (n - 1) d) (sym len)

  rest : (k : ℕ) (d : Shard) → (k ≡ c.args.from → ⊥) → k + 1 < last + 1 → get_or ys k d ≡ get_or xs k d
  rest k d ne l =
      let len = c.len-last.ensures in
      let from = c.requires.ends.from_within in
      c.swap_remove-source.ensures.by_index.1 k d ne (omega arith)

  source_is : c.swap_remove-source.result ≡ get_or xs c.args.from no_shard
  source_is = (let e = ends in c.swap_remove-source.ensures.value ∙ get_or_default xs c.args.from c.swap_remove-source.result no_shard (omega arith))

  other_is : c.index_mut.result.now ≡ get_or xs c.args.to no_shard
  other_is =
      let e = ends in
      let within = place_in xs ys c.args.from c.args.to last c.place_without-target.result e.0 e.1 e.2 e.3 c.requires.ends.apart moved rest c.place_without-target.ensures in
      c.index_mut.ensures.value
      ∙ (get_or_default ys c.place_without-target.result c.index_mut.result.now no_shard within
      ∙ other_there xs ys c.args.from c.args.to last c.place_without-target.result e.0 e.1 e.2 e.3 c.requires.ends.apart moved rest c.place_without-target.ensures no_shard)

pub pass-handed-requires-clause-like : goal.pass-handed-requires-clause-like
pass-handed-requires-clause-like c = record {
  case = ap (λ (s : Shard). s.terms.case) (other_is c) ∙ (c.requires.fit.like.case ∙ ap (λ (s : Shard). s.terms.case) (sym (source_is c)));
  retains = ap (λ (s : Shard). s.terms.retains) (other_is c) ∙ (c.requires.fit.like.retains ∙ ap (λ (s : Shard). s.terms.retains) (sym (source_is c)));
  cancel = ap (λ (s : Shard). s.terms.cancel) (other_is c) ∙ (c.requires.fit.like.cancel ∙ ap (λ (s : Shard). s.terms.cancel) (sym (source_is c)));
}

module _ (c : goal.After-swap) where
  abbrev xs_then : List Shard
  xs_then = c.args.shards.now.items

  abbrev ys_then : List Shard
  ys_then = c.swap_remove-source.new.self.items

  abbrev last_then : ℕ
  last_then = c.len-last.result - 1

  -- how long the list was, and is without the shard that was taken out
  ends_then : (length xs_then ≡ last_then + 1) × (length ys_then ≡ last_then) × (c.args.from < last_then + 1) × (c.args.to < last_then + 1)
  ends_then =
      let len = c.len-last.ensures in
      let old = c.args.shards.now.ok.0 in
      let new = c.swap_remove-source.new.self.ok.0 in
      let less = c.swap_remove-source.ensures.len in
      let from = c.requires.ends.from_within in
      let to = c.requires.ends.to_within in
      ((omega arith), (omega arith), (omega arith), (omega arith))

  moved_then : (d : Shard) → c.args.from + 1 < last_then + 1 → get_or ys_then c.args.from d ≡ get_or xs_then last_then d
  moved_then d l =
      let len = c.len-last.ensures in
      let from = c.requires.ends.from_within in
      c.swap_remove-source.ensures.by_index.0 d (omega arith) ∙ ap (λ n. get_or xs_then (n - 1) d) (sym len)

  rest_then : (k : ℕ) (d : Shard) → (k ≡ c.args.from → ⊥) → k + 1 < last_then + 1 → get_or ys_then k d ≡ get_or xs_then k d
  rest_then k d ne l =
      let len = c.len-last.ensures in
      let from = c.requires.ends.from_within in
      c.swap_remove-source.ensures.by_index.1 k d ne (omega arith)

  source_then : c.swap_remove-source.result ≡ get_or xs_then c.args.from no_shard
  source_then = (let e = ends_then in c.swap_remove-source.ensures.value ∙ get_or_default xs_then c.args.from c.swap_remove-source.result no_shard (omega arith))

  other_then : c.index_mut.result.now ≡ get_or xs_then c.args.to no_shard
  other_then =
      let e = ends_then in
      let within = place_in xs_then ys_then c.args.from c.args.to last_then c.place_without-target.result e.0 e.1 e.2 e.3 c.requires.ends.apart moved_then rest_then c.place_without-target.ensures in
      c.index_mut.ensures.value
      ∙ (get_or_default ys_then c.place_without-target.result c.index_mut.result.now no_shard within
      ∙ other_there xs_then ys_then c.args.from c.args.to last_then c.place_without-target.result e.0 e.1 e.2 e.3 c.requires.ends.apart moved_then rest_then c.place_without-target.ensures no_shard)

  -- what the list is at the end
  abbrev ws : List Shard
  ws = c.swap.new.self.items

  abbrev zs : List Shard
  zs = set ys_then c.place_without-target.result c.pass-handed.new.to ++ c.pass-handed.new.from ∷ []

  as_long : length ws ≡ length zs
  as_long =
      let a = c.swap.new.self.ok.0 in
      let b = c.push_reserved.new.self.ok.0 in
      let d = c.swap.ensures.len in
      let e = ap length c.push_reserved.ensures.items in
      omega arith

  swapped : SwappedAt zs ws c.args.from last_then
  swapped = subst (λ l. SwappedAt l ws c.args.from last_then) c.push_reserved.ensures.items c.swap.ensures.by_index

  result_is : ws ≡ set (set xs_then c.args.from c.pass-handed.new.from) c.args.to c.pass-handed.new.to
  result_is =
      let e = ends_then in
      put_back xs_then ys_then c.args.from c.args.to last_then c.place_without-target.result e.0 e.1 e.2 e.3 c.requires.ends.apart moved_then rest_then c.place_without-target.ensures
      c.pass-handed.new.from c.pass-handed.new.to ws as_long swapped

  from_then : get_or ws c.args.from no_shard ≡ c.pass-handed.new.from
  from_then =
      let e = ends_then in
      ap (λ l. get_or l c.args.from no_shard) result_is
      ∙ (get_or-set_other (set xs_then c.args.from c.pass-handed.new.from) c.args.to c.args.from c.pass-handed.new.to no_shard c.requires.ends.apart
      ∙ get_or-set_same xs_then c.args.from c.pass-handed.new.from no_shard (omega arith))

  to_then : get_or ws c.args.to no_shard ≡ c.pass-handed.new.to
  to_then =
      let e = ends_then in
      let wide = length-set xs_then c.args.from c.pass-handed.new.from in
      ap (λ l. get_or l c.args.to no_shard) result_is ∙ get_or-set_same (set xs_then c.args.from c.pass-handed.new.from) c.args.to c.pass-handed.new.to no_shard (omega arith)

  -- an item put where it stood
  stays : ws ≡ set (set xs_then c.args.from c.swap_remove-source.result) c.args.to c.index_mut.result.now → ws ≡ xs_then
  stays same =
      let e = ends_then in
      same
      ∙ ((λ i. set (set xs_then c.args.from (source_then i)) c.args.to (other_then i))
      ∙ (ap (λ l. set l c.args.to (get_or xs_then c.args.to no_shard)) (set_itself xs_then c.args.from no_shard) ∙ set_itself xs_then c.args.to no_shard))

pub returns-clause-passed : goal.returns-clause-passed
returns-clause-passed c = both_ok c.pass-handed.result _ _ _ c.pass-handed.ensures.left c.pass-handed.ensures.came (λ left came.
    record {
      left = subst (λ l. HasMovedOut c.args.router l (get_or (ws c) c.args.from no_shard)) (source_then c)
          (subst (HasMovedOut c.args.router c.swap_remove-source.result) (sym (from_then c)) left);
      came = subst (λ l. HasMovedIn c.args.router l (get_or c.args.shards.now.items c.args.to no_shard) (get_or (ws c) c.args.to no_shard)) (source_then c)
          (subst (λ l. HasMovedIn c.args.router c.swap_remove-source.result l (get_or (ws c) c.args.to no_shard)) (other_then c)
          (subst (HasMovedIn c.args.router c.swap_remove-source.result c.index_mut.result.now) (sym (to_then c)) came));
      rest = result_is c ∙ (ap (λ s. set (set c.args.shards.now.items c.args.from s) c.args.to c.pass-handed.new.to) (sym (from_then c)) ∙ ap (set (set c.args.shards.now.items c.args.from (get_or (ws c) c.args.from no_shard)) c.args.to) (sym (to_then c)));
    })

pub returns-clause-err : goal.returns-clause-err
returns-clause-err c = both_err c.pass-handed.result _ _ _ c.pass-handed.ensures.err c.pass-handed.ensures.none_came
    (λ from to. stays c (result_is c ∙ (λ i. set (set c.args.shards.now.items c.args.from (from i)) c.args.to (to i))))
