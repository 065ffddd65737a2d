-- What the rules give of a net's links and neighbours.
use Rattle.std.proofs.Common.{◌≡◌, ℕ, suc, zero, ◌+◌, ◌≤◌, ◌==◌, Bool, true, false, cond, ◌||◌, List, [], ◌∷◌, ◌++◌, length, map}
use Rattle.std.proofs.Common.{refl, ap, sym, ◌∙◌, subst, inl, inr, None, append_assoc, arith}
use Rattle.std.specs.List.{All}
use native.Mathlib.Numerals.{unary_clauses}
use Rattle.std.proofs.lemmas.Bool.{cases_eq, cases_lt, eq-eqb, ne_eqb, or_from, or_left, or_right}
use Rattle.std.proofs.lemmas.List.{append-nil}
use Rattle.std.specs.List.Sorted.{IsStrictlyIncreasing}
use Rattle.tw_model.specs.declared.net.Hop.{Hop}
use Rattle.tw_model.specs.declared.net.Link.{Link}
use Rattle.tw_model.specs.declared.rule.Rule.TheVariants.{TwiceLink}
use Rattle.tw_model.specs.PermittedPath.{PermittedPath}
use Rattle.tw_model.specs.Net.{Net, hops_of}
use Rattle.tw_model.specs.State.{hop}
use Rattle.tw_model.specs.Rules.{IsNet, LinksFollow, degree, is_linked, link_breaks, link_fault}
use Rattle.tw_instance.specs.Hops.{IsGoodHop}
use Rattle.tw_instance.proofs.Hops.{is_joined, length-with_hop, none_there}
use Rattle.tw_instance.proofs.Lists.{count_push}
use Rattle.tw_sim.proofs.Members.{all_from_in}
use Rattle.tw_model.proofs.Nets.{IsLink, Rises, hop_in_hops, hops_rises, is_link, neighbour}
use Rattle.tw_model.proofs.Unbroken.{none_broken}

-- ---- the rules of a link

-- what a link keeps after those of the net
pub record IsNextLink (net : Net) (l : Link) : Type 0 where
  pub good : IsLink net.nodes l
  pub new : is_linked net.links l.first l.second ≡ false

pub next_link : (net : Net) (l : Link) → link_fault net l ≡ None → IsNextLink net l
next_link net l h = let no = none_broken (link_breaks net l) h in record { good = is_link net l no; new = no TwiceLink }

-- what links that follow one another keep holds after each, so at the end
links_hold : (P : List Link → Type 0) (nodes : ℕ) → ((before : List Link) (l : Link) → link_fault (record { nodes = nodes; links = before; permitted = [] }) l ≡ None → P before → P (before ++ l ∷ []))
    → (before links : List Link) → LinksFollow (record { nodes = nodes; links = before; permitted = [] }) links → P before → P (before ++ links)
links_hold P nodes step before [] h p = subst P (sym (append-nil before)) p
links_hold P nodes step before (l ∷ links) h p =
    subst P (append_assoc before (l ∷ []) links) (links_hold P nodes step (before ++ l ∷ []) links h.1 (step before l h.0 p))

-- ---- how many neighbours a router has

-- of each router the neighbours are as many as its links
abbrev pub AreCounted : Net → Type 0
AreCounted net = (v : ℕ) → length (hops_of net v) ≡ degree net.links v

-- a link counts at its ends
degree_push : (links : List Link) (l : Link) (v : ℕ) (b : Bool) → (l.first == v || l.second == v) ≡ b → degree (links ++ l ∷ []) v ≡ degree links v + cond b 1 0
degree_push links l v b e = count_push (λ k. k.first == v || k.second == v) links l ∙ rw e refl

pub are_counted_more : (net : Net) (l : Link) → IsNextLink net l → AreCounted net → AreCounted (record net { links = net.links ++ l ∷ [] })
are_counted_more net l next are_counted v =
    let more : Net = record net { links = net.links ++ l ∷ [] } in
    let good = next.good in
    let joined = is_joined net l good.first good.second good.apart next.new in
    let so = are_counted v in
    let longer : (w : ℕ) → v ≡ w → length (hops_of more w) ≡ suc (length (hops_of net w)) → length (hops_of more v) ≡ suc (length (hops_of net v)) = λ w e h.
    subst (λ u. length (hops_of more u) ≡ suc (length (hops_of net u))) (sym e) h in
    elim (cases_eq v l.first) [
      | inl e ↦ (
          let pushed = degree_push net.links l v true (or_left (l.first == v) (l.second == v) (eq-eqb l.first v (sym e))) in
          let hops = longer l.first e (ap length (sym joined.first) ∙ length-with_hop _ _) in
          omega arith)
      | inr ne ↦ elim (cases_eq v l.second) [
        | inl e ↦ (
            let pushed = degree_push net.links l v true (or_right (l.first == v) (l.second == v) (eq-eqb l.second v (sym e))) in
            let hops = longer l.second e (ap length (sym joined.second) ∙ length-with_hop _ _) in
            omega arith)
        | inr nf ↦ (
            let none = or_from (l.first == v) (l.second == v) (ne_eqb l.first v (λ e. ne (sym e))) (ne_eqb l.second v (λ e. nf (sym e))) in
            let pushed = degree_push net.links l v false none in
            let hops = ap length (joined.others v ne nf) in
            omega arith)
      ]
    ]

-- the paths don't matter for the neighbours
pub hops_alike : (net : Net) (paths : List PermittedPath) (v : ℕ) → hops_of (record net { permitted = paths }) v ≡ hops_of net v
unfolding hops_of
hops_alike net paths v = refl

pub no_links : (nodes v : ℕ) → hops_of (record { nodes = nodes; links = []; permitted = [] }) v ≡ []
unfolding hops_of
no_links nodes v = none_there nodes 0 v

pub are_counted : (net : Net) → IsNet net → AreCounted net
are_counted net h v =
    let start : AreCounted (record { nodes = net.nodes; links = []; permitted = [] }) = λ u. ap length (no_links net.nodes u) in
    let all = links_hold (λ links. AreCounted (record { nodes = net.nodes; links = links; permitted = [] })) net.nodes
    (λ before l no_fault so. are_counted_more (record { nodes = net.nodes; links = before; permitted = [] }) l (next_link _ l no_fault) so) [] net.links h.links start in
    ap length (sym (hops_alike net [] v)) ∙ all v

-- ---- what holds of each neighbour

-- each neighbour is a router, and the delay to it within its bounds
pub good_hops : (net : Net) (v : ℕ) → IsNet net → All (IsGoodHop net.nodes) (hops_of net v)
good_hops net v is =
    all_from_in (IsGoodHop net.nodes) (hops_of net v) (λ h there. let n = neighbour net is v h there in record { peer = n.there; some = n.least; most = n.most })

rising_peers : (hops : List Hop) → Rises hops → IsStrictlyIncreasing (map (λ h. h.peer) hops)
rising_peers [] r k within = absurd (omega arith)
rising_peers (h ∷ []) r k within = absurd (omega arith)
rising_peers (h ∷ g ∷ hops) r zero within = r.0 g (inl refl)
rising_peers (h ∷ g ∷ hops) r (suc k) within = let later = simp unary_clauses at (rising_peers (g ∷ hops) r.1 k (omega arith)) in simp unary_clauses later

-- the neighbours stand in ascending order
pub rising_hops : (net : Net) (v : ℕ) → IsStrictlyIncreasing (map (λ h. h.peer) (hops_of net v))
rising_hops net v = rising_peers (hops_of net v) (hops_rises net v)

-- who is no router has no neighbour
pub no_hops : (net : Net) (v : ℕ) → IsNet net → net.nodes ≤ v → length (hops_of net v) ≡ 0
no_hops net v is out =
    elim (cases_lt 0 (length (hops_of net v))) [
      | inl some ↦ (let here = (neighbour net is v (hop net v 0) (hop_in_hops net v 0 some)).here in absurd (omega arith))
      | inr none ↦ omega arith
    ]
