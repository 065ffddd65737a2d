-- Each step at the table's queue keeps its rule.
use Rattle.std.proofs.Common.{◌≡◌, ℕ, zero, suc, ◌<◌, ◌≤◌, ◌||◌, Bool, false, true, true≢false, List, [], ◌∷◌, ◌++◌, drop, length, set, take, get_or, refl, ap, sym, ◌∙◌, subst, inl, inr, ⊎_elim, arith}
use mathlib.Core.Option.{some, some-injective, some-ne-none}
use lib.ListN.{get_elem?}
use Rattle.crossbeam_queue.proofs.Lists.{at_set}
use Rattle.crossbeam_queue.specs.Fifo.{Forks, Learns, Merges, Pops, Pushes}
use Rattle.std.specs.List.{AllByRecursion}
use Rattle.tw_core.proofs.Sums.{all_map}
use Rattle.tw_core.specs.Parts.{total}
use Rattle.tw_exchange.specs.Board.{Board, IsBoard, workers}
use Rattle.tw_model.specs.Case.{Case, IsCase, simulation}
use Rattle.tw_table.proofs.Lists.{all_append, all_apart, all_at, all_flat, all_left, all_right, all_set, around, flat_append, total_append, total_flat, total_set}
use Rattle.tw_rule.specs.Board as rule
use Rattle.tw_table.proofs.Rules.{AreSame, IsGiven, any_order, given_one, with_visits}
use Rattle.tw_table.specs.declared.rule.View.{View}
use Rattle.tw_table.specs.Shares.{IsRuled, MayBeGiven, Share, board_of}
use Rattle.tw_table.specs.Views.{Holds, IsVisitedBy, Knows, Taken, all_held, all_shares, first_view, given, joined, opened, spent_view, took, with_first, with_others}

-- ---- lists of which one is empty

left_empty : {X : Type 0} (xs ys : List X) → xs ++ ys ≡ [] → xs ≡ []
left_empty [] ys e = refl
left_empty (x ∷ xs) ys e = absurd (let n = ap length e in omega arith)

right_empty : {X : Type 0} (xs ys : List X) → xs ++ ys ≡ [] → ys ≡ []
right_empty [] ys e = e
right_empty (x ∷ xs) ys e = absurd (let n = ap length e in omega arith)

pub nil_right : {X : Type 0} (xs : List X) → xs ++ [] ≡ xs
nil_right [] = refl
nil_right (x ∷ xs) = ap (λ ys. x ∷ ys) (nil_right xs)

-- the one element of a list, and none before it or after it
record IsAlone {X : Type 0} (xs ys zs : List X) (a b : X) : Type 0 where
  pub first : xs ≡ []
  pub second : ys ≡ []
  pub third : zs ≡ []
  pub one : a ≡ b

alone : {X : Type 0} (xs ys zs : List X) (a b : X) → xs ++ (ys ++ (a ∷ zs)) ≡ b ∷ [] → IsAlone xs ys zs a b
alone [] [] zs a b e = record { first = refl; second = refl; third = ap (drop 1) e; one = ap (λ l. get_or l 0 a) e }
alone [] (y ∷ ys) zs a b e = absurd (let n = ap length (right_empty ys (a ∷ zs) (ap (drop 1) e)) in omega arith)
alone (x ∷ xs) ys zs a b e = absurd (let n = ap length (right_empty ys (a ∷ zs) (right_empty xs (ys ++ (a ∷ zs)) (ap (drop 1) e))) in omega arith)

-- ---- who has the exchange

-- no other pass has an exchange where none has
nobody : (views : List View) (port : ℕ) (v w : View) → get_elem? views port ≡ some v → all_held views ≡ [] → all_held (set views port w) ≡ w.held
nobody views port v w at none =
    let s = around (λ (u : View). u.held) views port v at in
    let empty : s.front ++ (v.held ++ s.rear) ≡ [] = sym s.now ∙ none in
    let front : s.front ≡ [] = left_empty s.front (v.held ++ s.rear) empty in
    let rear : s.rear ≡ [] = right_empty v.held s.rear (right_empty s.front (v.held ++ s.rear) empty) in
    s.with w ∙ (ap (λ f. f ++ (w.held ++ s.rear)) front ∙ (ap (λ r. w.held ++ r) rear ∙ nil_right w.held))

-- where one pass has it, it isn't in the queue, and no other has one
record IsHolder (items : List Board) (views : List View) (port : ℕ) (x y : Board) : Type 0 where
  pub items_empty : items ≡ []
  pub one : x ≡ y
  pub others : (w : View) → all_held (set views port w) ≡ w.held

holder : (items : List Board) (views : List View) (port : ℕ) (v : View) (x y : Board) → get_elem? views port ≡ some v → v.held ≡ x ∷ [] → items ++ all_held views ≡ y ∷ []
    → IsHolder items views port x y
holder items views port v x y at has one =
    let s = around (λ (u : View). u.held) views port v at in
    let all : items ++ (s.front ++ (x ∷ s.rear)) ≡ y ∷ []
    = ap (λ l. items ++ (s.front ++ (l ++ s.rear))) (sym has) ∙ (ap (λ l. items ++ l) (sym s.now) ∙ one) in
    let is = alone items s.front s.rear x y all in
    record {
      items_empty = is.first;
      one = is.one;
      others = λ w. s.with w ∙ (ap (λ f. f ++ (w.held ++ s.rear)) is.second ∙ (ap (λ r. w.held ++ r) is.third ∙ nil_right w.held));
    }

-- ---- the first view stands alone

is_first : (port : ℕ) (u v : View) → get_elem? (u ∷ []) port ≡ some v → u ≡ v
is_first zero u v at = some-injective u v at
is_first (suc port) u v at = absurd (some-ne-none v (sym at))

-- a pass that has begun is not the first view
begun_not_first : (views : List View) (port : ℕ) (v : View) → v.opening ≡ false → views ≡ first_view ∷ [] → get_elem? views port ≡ some v → ⊥
begun_not_first views port v begun is at =
    true≢false (ap (λ (u : View). u.opening) (is_first port first_view v (ap (λ l. get_elem? l port) (sym is) ∙ at)) ∙ begun)

-- ---- shares in another order

to_front : (front mine rear : List Share) → AreSame (front ++ (mine ++ rear)) (mine ++ (front ++ rear))
to_front front mine rear = record {
  sums = λ f.
      let a = total_append f front (mine ++ rear) in
      let b = total_append f mine rear in
      let c = total_append f mine (front ++ rear) in
      let d = total_append f front rear in
      omega arith;
  each = λ P h.
      let others = all_right P front (mine ++ rear) h in
      all_append P mine (front ++ rear) (all_left P mine rear others) (all_append P front rear (all_left P front (mine ++ rear) h) (all_right P mine rear others));
}

to_middle : (front mine rear : List Share) → AreSame (mine ++ (front ++ rear)) (front ++ (mine ++ rear))
to_middle front mine rear = to_front mine front rear

first_set : (port : ℕ) (u w : View) → get_elem? (u ∷ []) port ≡ some u → set (u ∷ []) port w ≡ w ∷ []
first_set zero u w at = refl
first_set (suc port) u w at = absurd (some-ne-none u (sym at))

-- the first share of a pass, and the others
cut : (front mine rear : List Share) → AreSame (front ++ (mine ++ rear)) ((front ++ (drop 1 mine ++ rear)) ++ (take 1 mine ++ []))
cut front [] rear = record {
  sums = λ f. (let a = total_append f (front ++ rear) [] in omega arith);
  each = λ P h. all_append P (front ++ rear) [] h tt;
}
cut front (s ∷ mine) rear = record {
  sums = λ f.
      let a = total_append f front ((s ∷ mine) ++ rear) in
      let b = total_append f (front ++ (mine ++ rear)) (s ∷ []) in
      let c = total_append f front (mine ++ rear) in
      omega arith;
  each = λ P h.
      let others = all_right P front ((s ∷ mine) ++ rear) h in
      all_append P (front ++ (mine ++ rear)) (s ∷ []) (all_append P front (mine ++ rear) (all_left P front ((s ∷ mine) ++ rear) h) others.1) (others.0, tt);
}

fewer_left : (mine : List Share) → 0 < length (drop 1 mine) → 0 < length mine
fewer_left [] h = h
fewer_left (s ∷ mine) h = omega arith

fewer_first : (mine : List Share) → 0 < length (take 1 mine) → 0 < length mine
fewer_first [] h = h
fewer_first (s ∷ mine) h = omega arith

-- ---- the steps

pub takes : (port : ℕ) (v : View) → v.opening ≡ false → v.held ≡ [] → Pops Holds port v (Taken v)
takes port v begun empty x items views (inl none) at = absurd (let n = ap length none.0 in omega arith)
takes port v begun empty x items views (inr is) at =
    let one : x ≡ is.board = ap (λ l. get_or l 0 x) is.one in
    let rest : items ++ all_held views ≡ [] = ap (drop 1) is.one in
    let s = around (λ (u : View). u.shares) views port v at in
    let w = took v x in
    let mine : IsRuled is.case x (s.front ++ (v.shares ++ s.rear))
    = subst (λ (b : Board). IsRuled is.case b (s.front ++ (v.shares ++ s.rear))) (sym one) (subst (IsRuled is.case is.board) s.now is.ruled) in
    let knows = all_at (Knows is.board) views port v at is.each in (
      w,
      inr (record {
        case = is.case;
        board = is.board;
        one = ap (λ l. l ++ all_held (set views port w)) (left_empty items (all_held views) rest)
            ∙ (nobody views port v w at (right_empty items (all_held views) rest) ∙ ap (λ b. b ∷ []) one);
        ruled = subst (IsRuled is.case is.board) (s.now ∙ sym (s.with w)) is.ruled;
        each = all_set (Knows is.board) views port w is.each
            (record { begun = begun; seen = (let b = ap (λ (b : Board). b.bound) one in omega arith); workers = knows.workers; owners = knows.owners; stop = knows.stop; halted = knows.halted });
      }),
      record {
        view = refl;
        met = record {
          case = is.case;
          others = s.front ++ s.rear;
          ruled = any_order is.case x (s.front ++ (v.shares ++ s.rear)) (v.shares ++ (s.front ++ s.rear)) (to_front s.front v.shares s.rear) mine;
        };
        knows = subst (λ (b : Board). Knows b v) (sym one) knows;
      },
    )

-- what a worker may give keeps the rule with what its visits have left
is_given : (case : Case) (x y : Board) (s t : Share) (others : List Share) → IsRuled case x (s ∷ others) → IsBoard y → IsVisitedBy s.shard.terms.worker x y → MayBeGiven x s y t
    → IsGiven x s y t
is_given case x y s t others ruled board visited may =
    let same = sym ruled.cases.0 in
    with_visits x y s t (subst IsCase same ruled.is_case) (subst (λ (c : Case). rule.IsBoard (simulation c) (board_of x)) same ruled.rule.board) board visited may

-- a worker that has the exchange and its share gives both back
pub gives : (port : ℕ) (v : View) (x y : Board) (s t : Share) → v.opening ≡ false → v.held ≡ x ∷ [] → v.shares ≡ s ∷ [] → IsBoard y → IsVisitedBy s.shard.terms.worker x y
    → MayBeGiven x s y t → Pushes Holds 1 port v y (λ w. w ≡ given t v y)
gives port v x y s t begun has mine board visited may items views room (inl none) at = absurd (begun_not_first views port v begun none.1 at)
gives port v x y s t begun has mine board visited may items views room (inr is) at =
    let w = given t v y in
    let h = holder items views port v x is.board at has is.one in
    let a = around (λ (u : View). u.shares) views port v at in
    let old : IsRuled is.case x (a.front ++ (v.shares ++ a.rear))
    = subst (λ (b : Board). IsRuled is.case b (a.front ++ (v.shares ++ a.rear))) (sym h.one) (subst (IsRuled is.case is.board) a.now is.ruled) in
    let front : IsRuled is.case x (s ∷ (a.front ++ a.rear))
    = subst (λ l. IsRuled is.case x (l ++ (a.front ++ a.rear))) mine
    (any_order is.case x (a.front ++ (v.shares ++ a.rear)) (v.shares ++ (a.front ++ a.rear)) (to_front a.front v.shares a.rear) old) in
    let new = given_one is.case x y s t (a.front ++ a.rear) front (is_given is.case x y s t (a.front ++ a.rear) front board visited may) in
    let knows = all_at (Knows is.board) views port v at is.each in
    let one : 0 < length v.shares = (let n = ap length mine in omega arith) in
    let rises : is.board.bound ≤ y.bound = (let up = visited.bound in let b = ap (λ (b : Board). b.bound) h.one in omega arith) in
    let same : workers y ≡ workers is.board = visited.workers ∙ ap (λ (b : Board). workers b) h.one in
    let same_owners : y.owners ≡ is.board.owners = visited.owners ∙ ap (λ (b : Board). b.owners) h.one in
    let same_stop : y.stop ≡ is.board.stop = visited.stop ∙ ap (λ (b : Board). b.stop) h.one in
    let weaker : (u : View) → Knows is.board u → Knows y u
    = λ u k. record { begun = k.begun; seen = (let b = k.seen in omega arith); workers = λ l. k.workers l ∙ sym same; owners = λ l. k.owners l ∙ sym same_owners; stop = λ l. k.stop l ∙ sym same_stop; halted = λ t. visited.halted (ap (λ (b : Board). b.halted) h.one ∙ k.halted t) } in (
      w,
      inr (record {
        case = is.case;
        board = y;
        one = ap (λ l. (l ++ y ∷ []) ++ all_held (set views port w)) h.items_empty ∙ ap (λ l. y ∷ l) (h.others w);
        ruled = subst (IsRuled is.case y) (sym (a.with w)) (any_order is.case y (t ∷ (a.front ++ a.rear)) (a.front ++ (t ∷ a.rear)) (to_middle a.front (t ∷ []) a.rear) new);
        each = all_set (Knows y) views port w (all_map (Knows is.board) (Knows y) weaker views is.each)
            (record { begun = begun; seen = omega arith; workers = λ l. knows.workers one ∙ sym same; owners = λ l. knows.owners one ∙ sym same_owners; stop = λ l. knows.stop one ∙ sym same_stop; halted = λ t. t });
      }),
      refl,
    )

-- and then the queue was empty
pub finds_empty : (port : ℕ) (v : View) (x : Board) → v.opening ≡ false → v.held ≡ x ∷ [] → Learns Holds port v (λ items. items ≡ [])
finds_empty port v x begun has items views (inl none) at = none.0
finds_empty port v x begun has items views (inr is) at = (holder items views port v x is.board at has is.one).items_empty

-- the exchange is laid on the table
lays_first : (port : ℕ) (case : Case) (x : Board) (shares : List Share) → IsRuled case x shares → Pushes Holds 1 port first_view x (λ w. w ≡ opened shares x)
lays_first port case x shares ruled items views room (inl none) at =
    let w = opened shares x in
    let now : set views port w ≡ w ∷ [] = ap (λ l. set l port w) none.1 ∙ first_set port first_view w (ap (λ l. get_elem? l port) (sym none.1) ∙ at) in (
      w,
      inr (record {
        case = case;
        board = x;
        one = ap (λ l. (l ++ x ∷ []) ++ all_held (set views port w)) none.0 ∙ ap (λ l. x ∷ all_held l) now;
        ruled = subst (IsRuled case x) (sym (ap all_shares now ∙ nil_right shares)) ruled;
        each = subst (AllByRecursion (Knows x)) (sym now) (record { begun = refl; seen = omega arith; workers = λ l. refl; owners = λ l. refl; stop = λ l. refl; halted = λ t. t }, tt);
      }),
      refl,
    )
lays_first port case x shares ruled items views room (inr is) at = absurd (true≢false (all_at (Knows is.board) views port first_view at is.each).begun)

pub lays : (port : ℕ) (v : View) (case : Case) (x : Board) (shares : List Share) → v ≡ first_view → IsRuled case x shares → Pushes Holds 1 port v x (λ w. w ≡ opened shares x)
lays port v case x shares is ruled = subst (λ (u : View). Pushes Holds 1 port u x (λ w. w ≡ opened shares x)) (sym is) (lays_first port case x shares ruled)

lays_first_on_empty : (port : ℕ) → Learns Holds port first_view (λ items. items ≡ [])
lays_first_on_empty port items views (inl none) at = none.0
lays_first_on_empty port items views (inr is) at = absurd (true≢false (all_at (Knows is.board) views port first_view at is.each).begun)

pub lays_on_empty : (port : ℕ) (v : View) → v ≡ first_view → Learns Holds port v (λ items. items ≡ [])
lays_on_empty port v is = subst (λ (u : View). Learns Holds port u (λ items. items ≡ [])) (sym is) (lays_first_on_empty port)

-- a pass is cut in two
pub forks : (port : ℕ) (v : View) → v.opening ≡ false → v.held ≡ [] → Forks Holds port v (with_others v) (with_first v)
forks port v begun empty items views (inl none) at = absurd (begun_not_first views port v begun none.1 at)
forks port v begun empty items views (inr is) at =
    let l = with_others v in
    let r = with_first v in
    let s = around (λ (u : View). u.shares) views port v at in
    let h = around (λ (u : View). u.held) views port v at in
    let knows = all_at (Knows is.board) views port v at is.each in
    let shares : all_shares (set views port l ++ r ∷ []) ≡ (s.front ++ (drop 1 v.shares ++ s.rear)) ++ (take 1 v.shares ++ [])
    = flat_append (λ (u : View). u.shares) (set views port l) (r ∷ []) ∙ ap (λ k. k ++ (take 1 v.shares ++ [])) (s.with l) in
    let holds : all_held (set views port l ++ r ∷ []) ≡ all_held views
    = flat_append (λ (u : View). u.held) (set views port l) (r ∷ []) ∙ (nil_right (all_held (set views port l)) ∙ (h.with l ∙ sym h.now)) in
    inr (record {
      case = is.case;
      board = is.board;
      one = ap (λ k. items ++ k) holds ∙ is.one;
      ruled = subst (IsRuled is.case is.board) (sym shares)
          (any_order is.case is.board (s.front ++ (v.shares ++ s.rear)) ((s.front ++ (drop 1 v.shares ++ s.rear)) ++ (take 1 v.shares ++ [])) (cut s.front v.shares s.rear)
          (subst (IsRuled is.case is.board) s.now is.ruled));
      each = all_append (Knows is.board) (set views port l) (r ∷ [])
          (all_set (Knows is.board) views port l is.each
          (record { begun = begun; seen = knows.seen; workers = λ n. knows.workers (fewer_left v.shares n); owners = λ n. knows.owners (fewer_left v.shares n); stop = λ n. knows.stop (fewer_left v.shares n); halted = knows.halted }))
          (record { begun = begun; seen = knows.seen; workers = λ n. knows.workers (fewer_first v.shares n); owners = λ n. knows.owners (fewer_first v.shares n); stop = λ n. knows.stop (fewer_first v.shares n); halted = knows.halted }, tt);
    })

-- what follows from either mark
either : {P : Type 0} (a b : Bool) → (a ≡ true → P) → (b ≡ true → P) → (a || b) ≡ true → P
either true b f g h = f refl
either false b f g h = g h

-- a pass takes in another
pub merges : (port : ℕ) (v : View) (other : ℕ) (u : View) → v.opening ≡ false → 0 < length v.shares → u.held ≡ [] → Merges Holds port v other u (joined v u) spent_view
merges port v other u begun more empty items views (inl none) at apart there = absurd (begun_not_first views port v begun none.1 at)
merges port v other u begun more empty items views (inr is) at apart there =
    let w = joined v u in
    let once = set views port w in
    let two = set once other spent_view in
    let was : get_elem? views other ≡ some u = ⊎_elim (λ k. absurd (apart k.0)) (λ k. k.1) (at_set views port other w u there) in
    let knows = all_at (Knows is.board) views port v at is.each in
    let also = all_at (Knows is.board) views other u was is.each in
    let h = around (λ (k : View). k.held) views port v at in
    let g = around (λ (k : View). k.held) once other u there in
    let held : all_held two ≡ all_held views
    = g.with spent_view ∙ (ap (λ l. g.front ++ (l ++ g.rear)) (sym empty) ∙ (sym g.now ∙ (h.with w ∙ sym h.now))) in
    let same : AreSame (all_shares views) (all_shares two) = record {
      sums = λ f.
          let F : View → ℕ = λ k. total f k.shares in
          let a = total_set F views port v w at in
          let b = total_set F once other u spent_view there in
          let c = total_append f v.shares u.shares in
          let d = total_flat (λ (k : View). k.shares) f views in
          let e = total_flat (λ (k : View). k.shares) f two in
          omega arith;
      each = λ P all.
          let Q : View → Type 0 = λ k. AllByRecursion P k.shares in
          let apart = all_apart (λ (k : View). k.shares) P views all in
          let both = all_append P v.shares u.shares (all_at Q views port v at apart) (all_at Q views other u was apart) in
          all_flat (λ (k : View). k.shares) P two (all_set Q once other spent_view (all_set Q views port w apart both) tt);
    } in
    inr (record {
      case = is.case;
      board = is.board;
      one = ap (λ k. items ++ k) held ∙ is.one;
      ruled = any_order is.case is.board (all_shares views) (all_shares two) same is.ruled;
      each = all_set (Knows is.board) once other spent_view
          (all_set (Knows is.board) views port w is.each
          (record { begun = begun; seen = (let a = knows.seen in let b = also.seen in omega arith); workers = λ n. knows.workers more; owners = λ n. knows.owners more; stop = λ n. knows.stop more; halted = either v.halted u.halted knows.halted also.halted }))
          (record { begun = refl; seen = omega arith; workers = λ n. absurd (omega arith); owners = λ n. absurd (omega arith); stop = λ n. absurd (omega arith); halted = λ t. absurd (true≢false (sym t)) });
    })
