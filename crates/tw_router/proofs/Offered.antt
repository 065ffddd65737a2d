-- The path that a neighbour offers, by its place among the permitted ones.
use Rattle.std.proofs.Common.{◌≡◌, ◌≢◌, ℕ, ◌==◌, ◌∷◌, ◌-◌, Bool, false, not, List, length, Option, Some, None, IfSome, IsTrue, if◌then◌else◌, refl, ap, sym, ◌∙◌}
use Rattle.std.specs.List.{AllPairs, position_or_len, slice_get}
use Rattle.std.specs.Prelude.{slice_index_or}
use Rattle.std.proofs.lemmas.Bool.{ne_eqb, not-false}
use Rattle.std.proofs.lemmas.Option.{get_or_from_slice_get, slice_get_within}
use Rattle.tw_event.specs.declared.event.PathNo.{PathNo}
use Rattle.tw_model.specs.declared.state.Row.{Row}
use Rattle.tw_model.specs.Net.{Net, path, paths_of, same_path}
use Rattle.tw_model.specs.State.{bars, line_of, offers}
use Rattle.tw_model.proofs.Paths.{paths_of-distinct, same_path_is}
use Rattle.tw_instance.specs.Extensions.{IsExtendedAt}
use Rattle.tw_instance.specs.Hops.{AreDistinct}
use Rattle.tw_instance.proofs.Finding.{is-same, is_path}
use Rattle.tw_router.specs.Ranks.{IsOfferedAt, rank_of_path}
use Rattle.tw_router.proofs.Places.{place_of-distinct}

-- ---- over a link that is up

module _ (net : Net) (v : ℕ) (row : Row) (up : not row.up ≡ false) (some : row.heard.0 ≡ 0 → ⊥) where
  offers_is : (q : PathNo) → offers net v q row ≡ same_path (path net q) (v ∷ path net row.heard)
  offers_is q = rw (not-false row.up up, ne_eqb row.heard.0 0 some) refl

  -- what is offered is the router's number followed by what was heard
  pub offered_path : (q : PathNo) → IsTrue (offers net v q row) → path net q ≡ v ∷ path net row.heard
  offered_path q h = same_path_is (path net q) (v ∷ path net row.heard) (sym (offers_is q) ∙ h)

  pub offered_at : AreDistinct net → (found : Option ℕ) → IfSome found (IsExtendedAt net v row.heard) → IfSome found (IsOfferedAt net v row)
  offered_at apart None e = e
  offered_at apart (Some k) e =
      let q = e.0 in (
        q,
        e.1,
        λ p. (
          λ h. ap Some (apart q p (is_path net q v (path net row.heard) e.2) (is_path net p v (path net row.heard) (offered_path p h)) (e.2 ∙ sym (offered_path p h))),
          λ same. offers_is p ∙ is-same (path net p) (v ∷ path net row.heard) (ap (λ o. path net (got o)) (sym same) ∙ e.2),
        ),
      )
    where
      got : Option PathNo → PathNo
      got (Some x) = x
      got None = record { 0 = 0 }

-- ---- in an order

-- where the order is that of the instance
pub place_kept : (order permitted : List PathNo) (k : ℕ) (q : PathNo) → AllPairs (λ p q. p ≢ q) order → order ≡ permitted → slice_get permitted k ≡ Some q
    → k ≡ position_or_len (λ p. p.0 == q.0) order
place_kept order permitted k q distinct same at =
    let here : slice_get order k ≡ Some q = ap (λ qs. slice_get qs k) same ∙ at in
    place_of-distinct order k q q distinct (slice_get_within order k q here) (ap (λ (p : PathNo). p.0) (get_or_from_slice_get order k q q here))

-- ---- bars

-- where no path is barred
pub rank_unbarred : (net : Net) (v : ℕ) (order : List PathNo) (barred : List Bool) (k : ℕ) (q : PathNo) → AllPairs (λ p q. p ≢ q) order
    → order ≡ paths_of net v → ((k : ℕ) → slice_index_or barred k false ≡ false) → slice_get (paths_of net v) k ≡ Some q
    → length order - k ≡ rank_of_path net v order barred q
rank_unbarred net v order barred k q distinct same none at =
    ap (λ n. length order - n) (place_kept order (paths_of net v) k q distinct same at)
    ∙ sym (ap (λ b. if b then 0 else length order - position_or_len (λ p. p.0 == q.0) order) (none (line_of net v q)))

-- the bar of a path stands at its place among the permitted ones
pub bars_at : (net : Net) (v : ℕ) (barred : List Bool) (k : ℕ) (q : PathNo) → slice_get (paths_of net v) k ≡ Some q
    → slice_index_or barred k false ≡ bars net v barred q
bars_at net v barred k q at =
    ap (λ n. slice_index_or barred n false) (place_kept (paths_of net v) (paths_of net v) k q (paths_of-distinct net v) refl at)

-- a path whose bar is known
pub rank_known : (net : Net) (v : ℕ) (order : List PathNo) (barred : List Bool) (b : Bool) (q : PathNo) → b ≡ bars net v barred q
    → (if b then 0 else length order - position_or_len (λ p. p.0 == q.0) order) ≡ rank_of_path net v order barred q
rank_known net v order barred b q is = ap (λ b. if b then 0 else length order - position_or_len (λ p. p.0 == q.0) order) is
