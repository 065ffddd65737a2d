-- Workers that are made of shards and hands, and shards and hands that workers leave.
use Rattle.std.proofs.Common.{◌≡◌, ℕ, suc, List, [], ◌∷◌, ◌++◌, Some, length, map, refl, ap, sym, ◌∙◌, subst, append_assoc, arith, slice_get}
use Rattle.std.proofs.lemmas.List.{append-nil, map-append}
use Rattle.std.specs.List.{AllByRecursion}
use Rattle.tw_shard.specs.Shard.{Shard}
use Rattle.tw_table.specs.Shares.{Share, share, shares_of}
use Rattle.tw_table.specs.declared.hand.Hand.{Hand}
use Rattle.tw_workers.specs.Work.{IsAtWork, Worker}

all_from : {X : Type 0} (P : X → Type 0) (xs : List X) → ((i : ℕ) (x : X) → slice_get xs i ≡ Some x → P x) → AllByRecursion P xs
all_from P [] h = tt
all_from P (x ∷ xs) h = (h 0 x refl, all_from P xs (λ i y e. h (suc i) y e))

pub all_at_work : (stop : ℕ) (shares : List Share) → ((i : ℕ) (s : Share) → slice_get shares i ≡ Some s → IsAtWork stop s) → AllByRecursion (IsAtWork stop) shares
all_at_work stop shares h = all_from (IsAtWork stop) shares h

all_push : {X : Type 0} (P : X → Type 0) (xs : List X) (x : X) → AllByRecursion P xs → P x → AllByRecursion P (xs ++ x ∷ [])
all_push P [] x h k = (k, tt)
all_push P (y ∷ xs) x h k = (h.0, all_push P xs x h.1 k)

-- these shards and hands wait, and those before them have become these workers
pub record AreMade (stop : ℕ) (all : List Share) (shards : List Shard) (hands : List Hand) (workers : List Worker) : Type 0 where
  pub count : length hands ≡ length shards
  pub shares : map (λ (w : Worker). w.share) workers ++ shares_of shards hands ≡ all
  pub stops : AllByRecursion (λ (w : Worker). w.stop ≡ stop) workers
  pub work : AllByRecursion (IsAtWork stop) (shares_of shards hands)

pub none_made : (stop : ℕ) (shards : List Shard) (hands : List Hand) (workers : List Worker) → workers ≡ [] → length hands ≡ length shards
    → AllByRecursion (IsAtWork stop) (shares_of shards hands) → AreMade stop (shares_of shards hands) shards hands workers
none_made stop shards hands workers none count work =
    subst (AreMade stop (shares_of shards hands) shards hands) (sym none) record { count = count; shares = refl; stops = tt; work = work }

pub one_made : (stop : ℕ) (all : List Share) (s : Shard) (shards : List Shard) (h : Hand) (hands : List Hand) (workers next : List Worker) (w : Worker)
    → AreMade stop all (s ∷ shards) (h ∷ hands) workers → w.share ≡ share s h → w.stop ≡ stop → next ≡ workers ++ w ∷ [] → AreMade stop all shards hands next
one_made stop all s shards h hands workers next w is mine to added =
    subst (AreMade stop all shards hands) (sym added) record {
      count = (let c = is.count in omega (arith, c));
      shares = ap (λ ss. ss ++ shares_of shards hands) (map-append (λ (v : Worker). v.share) workers (w ∷ []))
          ∙ (append_assoc (map (λ (v : Worker). v.share) workers) (w.share ∷ []) (shares_of shards hands)
          ∙ (ap (λ t. map (λ (v : Worker). v.share) workers ++ t ∷ shares_of shards hands) mine ∙ is.shares));
      stops = all_push (λ (v : Worker). v.stop ≡ stop) workers w is.stops to;
      work = is.work.1;
    }

pub no_hand : (stop : ℕ) (all : List Share) (s : Shard) (shards : List Shard) (workers : List Worker) → AreMade stop all (s ∷ shards) [] workers → ⊥
no_hand stop all s shards workers is = let c = is.count in omega (arith, c)

pub all_made : (stop : ℕ) (all : List Share) (hands : List Hand) (workers : List Worker) → AreMade stop all [] hands workers → map (λ (w : Worker). w.share) workers ≡ all
all_made stop all hands workers is = sym (append-nil (map (λ (w : Worker). w.share) workers)) ∙ is.shares

-- these workers are to be taken apart, and those before them have left these shards and hands
pub record AreApart (all workers : List Worker) (shards : List Shard) (hands : List Hand) : Type 0 where
  pub count : length hands ≡ length shards
  pub shares : shares_of shards hands ++ map (λ (w : Worker). w.share) workers ≡ map (λ (w : Worker). w.share) all

one_more : (shards : List Shard) (hands : List Hand) (s : Shard) (h : Hand) → length hands ≡ length shards
    → shares_of (shards ++ s ∷ []) (hands ++ h ∷ []) ≡ shares_of shards hands ++ share s h ∷ []
one_more [] [] s h e = refl
one_more [] (k ∷ hands) s h e = absurd (omega (arith, e))
one_more (t ∷ shards) [] s h e = absurd (omega (arith, e))
one_more (t ∷ shards) (k ∷ hands) s h e = ap (λ ss. share t k ∷ ss) (one_more shards hands s h (omega (arith, e)))

long_push : {X : Type 0} (xs : List X) (x : X) → length (xs ++ x ∷ []) ≡ suc (length xs)
long_push [] x = refl
long_push (y ∷ xs) x = ap suc (long_push xs x)

pub none_apart : (workers : List Worker) (shards : List Shard) (hands : List Hand) → shards ≡ [] → hands ≡ [] → AreApart workers workers shards hands
none_apart workers shards hands s h =
    subst (λ ss. AreApart workers workers ss hands) (sym s) (subst (λ hs. AreApart workers workers [] hs) (sym h) record { count = refl; shares = refl })

pub one_apart : (all : List Worker) (w : Worker) (workers : List Worker) (shards now : List Shard) (hands then : List Hand) (s : Shard) (h : Hand)
    → AreApart all (w ∷ workers) shards hands → share s h ≡ w.share → now ≡ shards ++ s ∷ [] → then ≡ hands ++ h ∷ [] → AreApart all workers now then
one_apart all w workers shards now hands then s h is mine more also =
    subst (λ ss. AreApart all workers ss then) (sym more) (subst (λ hs. AreApart all workers (shards ++ s ∷ []) hs) (sym also) record {
      count = long_push hands h ∙ (ap suc is.count ∙ sym (long_push shards s));
      shares = ap (λ ss. ss ++ map (λ (v : Worker). v.share) workers) (one_more shards hands s h is.count)
          ∙ (append_assoc (shares_of shards hands) (share s h ∷ []) (map (λ (v : Worker). v.share) workers)
          ∙ (ap (λ t. shares_of shards hands ++ t ∷ map (λ (v : Worker). v.share) workers) mine ∙ is.shares));
    })

pub all_apart : (all : List Worker) (shards : List Shard) (hands : List Hand) → AreApart all [] shards hands → shares_of shards hands ≡ map (λ (w : Worker). w.share) all
all_apart all shards hands is = sym (append-nil (shares_of shards hands)) ∙ is.shares
