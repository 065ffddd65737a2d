-- A dispute wheel (Griffin, Shepherd, Wilfong 2002): routers in a ring, each with a spoke, a path of its own, and a path ranked
-- at least as high that leads round the rim to the next router and goes on with that one's spoke. A path leads on by paths that
-- are ranked at each router on the way: others are never used here.
use Rattle.std.specs.Prelude.{ℕ, ◌≡◌, ◌==◌, Bool, false, true, List, [], ◌∷◌, ◌++◌, if◌then◌else◌}
use Rattle.std.specs.List.{list_any}
use Rattle.tw_event.specs.declared.event.PathNo.{PathNo}
use Rattle.tw_model.specs.Net.{Net, path}
use Rattle.tw_model.specs.State.{State}

-- whether the path stands among these
abbrev pub is_among : PathNo → List PathNo → Bool
is_among p order = list_any (λ q. p.0 == q.0) order

-- whether p stands no later than q, and q stands there
abbrev pub is_no_worse : PathNo → PathNo → List PathNo → Bool
is_no_worse p q [] = false
is_no_worse p q (x ∷ order) = if p.0 == x.0 then is_among q (x ∷ order) else is_no_worse p q order

-- a pivot, its spoke, and its path along the rim
pub record Pivot : Type 0 where
  pub router : ℕ
  pub spoke : PathNo
  pub rim : PathNo

module _ (net : Net) (states : ℕ → State) where
  -- the path goes on, after one hop or more, with the other
  pub data LeadsTo : PathNo → PathNo → Type 0 where
    hop : (v : ℕ) (p q : PathNo) → is_among p (states v).order ≡ true → path net p ≡ v ∷ path net q → LeadsTo p q
    hops : (v : ℕ) (p r q : PathNo) → is_among p (states v).order ≡ true → path net p ≡ v ∷ path net r → LeadsTo r q → LeadsTo p q

  -- the pivot ranks its rim path no worse than its spoke, and the rim path leads to the next pivot's spoke
  pub record IsDisputed (one next : Pivot) : Type 0 where
    pub ranked : is_no_worse one.rim one.spoke (states one.router).order ≡ true
    pub leads : LeadsTo one.rim next.spoke

  -- each with the next one
  abbrev pub AreDisputed : Pivot → List Pivot → Type 0
  AreDisputed one [] = Unit {0}
  AreDisputed one (next ∷ others) = IsDisputed one next × AreDisputed next others

  -- and the last with the first
  abbrev pub IsDisputeWheel : Pivot → List Pivot → Type 0
  IsDisputeWheel one others = AreDisputed one (others ++ one ∷ [])
