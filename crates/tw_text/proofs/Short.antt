-- The numbers of a case that keeps the rules have at most ten digits.
use Rattle.std.proofs.Common.{◌≡◌, ℕ, ◌≤◌, ◌==◌, nat_lt, nat_le, Bool, true, false, not, ◌&&◌, List, [], ◌∷◌, length, if◌then◌else◌, None, refl, arith}
use Rattle.std.proofs.lemmas.Bool.{and_parts, or_parts, not-false}
use Rattle.std.proofs.lemmas.Bool.Decides.{nat_tests}
use Rattle.std.specs.List.{AllByRecursion, list_all}
use Rattle.tw_instance.proofs.Sound.{is_router}
use Rattle.tw_model.proofs.Nets.{nodes_within}
use Rattle.tw_model.proofs.Unbroken.{none_broken}
use Rattle.tw_model.specs.PermittedPath.{PermittedPath}
use Rattle.tw_model.specs.Net.{Net, begins_at, paths_of}
use Rattle.tw_model.specs.Rules.{IsNet, has_line, has_place, is_within, link_breaks, link_fault, nodes_fault, path_breaks, path_fault, scene_breaks, scene_fault}
use Rattle.tw_model.specs.declared.case.Scene.{Scene}
use Rattle.tw_model.specs.declared.case.Scene.TheVariants.{Allow, Fail, Forbid, Restore, Swap}
use Rattle.tw_model.specs.declared.limits.TheConstants.{LATEST, LONGEST_DELAY, MOST_ROUTERS}
use Rattle.tw_model.specs.declared.net.Link.{Link}
use Rattle.tw_model.specs.declared.rule.Rule.TheVariants.{Range, Delay, PathOwner, NoSuchPlace, Time}
use Rattle.tw_text.specs.declared.keyword.Keyword.TheVariants as keyword
use Rattle.tw_text.specs.Statements.{nodes_line, link_line, path_line, scene_line, takes}
use Rattle.tw_text.proofs.Said.{IsSayable, IsShort, says}

pub nodes_short : (version n : ℕ) → nodes_fault n ≡ None → IsSayable version (nodes_line n)
nodes_short version n h = let within = nodes_within n h in let small = within.1 in record { said = refl; short = (omega arith, tt); count = refl }

ends_short : (k a b : ℕ) → k ≤ MOST_ROUTERS → not (nat_lt a k && nat_lt b k) ≡ false → IsShort a × IsShort b
ends_short k a b small h =
    let w = and_parts (nat_lt a k) (nat_lt b k) (not-false (nat_lt a k && nat_lt b k) h) in
    let p = w.0 in let q = w.1 in (grind (arith, nat_tests), grind (arith, nat_tests))

within_short : (k n : ℕ) → k ≤ LATEST → is_within 1 k n ≡ true → IsShort n
within_short k n small h = grind (arith, nat_tests)

-- the numbers of a link, with one delay or two
link_numbers : (first : Bool) (l : Link) → IsShort l.first → IsShort l.second → IsShort l.delay → IsShort l.back
    → AllByRecursion IsShort (if first then l.first ∷ l.second ∷ l.delay ∷ [] else l.first ∷ l.second ∷ l.delay ∷ l.back ∷ [])
link_numbers true l a b c d = (a, (b, (c, tt)))
link_numbers false l a b c d = (a, (b, (c, (d, tt))))

link_count : (first : Bool) (l : Link)
    → takes (if first then keyword.Link else keyword.TwoWayLink) (length (if first then l.first ∷ l.second ∷ l.delay ∷ [] else l.first ∷ l.second ∷ l.delay ∷ l.back ∷ [])) ≡ true
link_count true l = refl
link_count false l = refl

pub link_short : (version : ℕ) (net : Net) (l : Link) → says version (link_line l) ≡ true → net.nodes ≤ MOST_ROUTERS → link_fault net l ≡ None → IsSayable version (link_line l)
link_short version net l said small h =
    let ends = ends_short net.nodes l.first l.second small (none_broken (link_breaks net l) h Range) in
    let within = not-false (is_within 1 LONGEST_DELAY l.delay && is_within 1 LONGEST_DELAY l.back) (none_broken (link_breaks net l) h Delay) in
    let both = and_parts (is_within 1 LONGEST_DELAY l.delay) (is_within 1 LONGEST_DELAY l.back) within in
    let delay = within_short LONGEST_DELAY l.delay (omega arith) both.0 in
    let back = within_short LONGEST_DELAY l.back (omega arith) both.1 in
    record { said = said; short = link_numbers (version == 1) l ends.0 ends.1 delay back; count = link_count (version == 1) l }

all_short : (k : ℕ) (ns : List ℕ) → k ≤ MOST_ROUTERS → list_all (λ v. nat_lt v k) ns ≡ true → AllByRecursion IsShort ns
all_short k [] small h = tt
all_short k (n ∷ ns) small h =
    let w = and_parts (nat_lt n k) (list_all (λ v. nat_lt v k) ns) h in
    let p = w.0 in (grind (arith, nat_tests), all_short k ns small w.1)

-- an owner, and one node at least
two_or_more : (v w : ℕ) (ns : List ℕ) → begins_at ns v ≡ true → nat_le 2 (length (w ∷ ns)) ≡ true
two_or_more v w [] h = absurd (cc)
two_or_more v w (n ∷ ns) h = grind (arith, nat_tests)

pub path_short : (version : ℕ) (net : Net) (p : PermittedPath) → net.nodes ≤ MOST_ROUTERS → path_fault net p ≡ None → IsSayable version (path_line p)
path_short version net p small h =
    let below = not-false (nat_lt p.owner net.nodes && list_all (λ v. nat_lt v net.nodes) p.nodes) (none_broken (path_breaks net p) h Range) in
    let w = and_parts (nat_lt p.owner net.nodes) (list_all (λ v. nat_lt v net.nodes) p.nodes) below in
    let b = or_parts (p.owner == 0) (not (begins_at p.nodes p.owner)) (none_broken (path_breaks net p) h PathOwner) in
    let o = w.0 in
    record { said = refl; short = (grind (arith, nat_tests), all_short net.nodes p.nodes small w.1); count = two_or_more p.owner p.owner p.nodes (not-false (begins_at p.nodes p.owner) b.1) }

time_short : (t : ℕ) → nat_lt LATEST t ≡ false → IsShort t
time_short t h = grind (arith, nat_tests)

-- a router, and a place among its paths
line_short : (net : Net) (v k : ℕ) → IsNet net → not (nat_lt v net.nodes) ≡ false → not (has_line net v k) ≡ false → IsShort v × IsShort k
line_short net v k is range h =
    let small = (nodes_within net.nodes is.nodes).1 in
    let few = (is_router net v is).few_paths in
    let node = not-false (nat_lt v net.nodes) range in
    let place = and_parts (not (v == 0)) (has_place net v k) (not-false (has_line net v k) h) in
    (grind (arith, nat_tests), within_short (length (paths_of net v)) k (omega arith) place.1)

pub scene_short : (version : ℕ) (net : Net) (count : ℕ) (s : Scene) → says version (scene_line s) ≡ true → IsNet net → scene_fault net count s ≡ None → IsSayable version (scene_line s)
scene_short version net count (Fail t a b) said is h =
    let ends = ends_short net.nodes a b (nodes_within net.nodes is.nodes).1 (none_broken (scene_breaks net count (Fail t a b)) h Range) in
    record { said = said; short = (time_short t (none_broken (scene_breaks net count (Fail t a b)) h Time), (ends.0, (ends.1, tt))); count = refl }
scene_short version net count (Restore t a b) said is h =
    let ends = ends_short net.nodes a b (nodes_within net.nodes is.nodes).1 (none_broken (scene_breaks net count (Restore t a b)) h Range) in
    record { said = said; short = (time_short t (none_broken (scene_breaks net count (Restore t a b)) h Time), (ends.0, (ends.1, tt))); count = refl }
scene_short version net count (Swap t v i j) said is h =
    let small = (nodes_within net.nodes is.nodes).1 in
    let few = (is_router net v is).few_paths in
    let node = not-false (nat_lt v net.nodes) (none_broken (scene_breaks net count (Swap t v i j)) h Range) in
    let within = not-false (has_place net v i && has_place net v j) (none_broken (scene_breaks net count (Swap t v i j)) h NoSuchPlace) in
    let places = and_parts (has_place net v i) (has_place net v j) within in
    let first = within_short (length (paths_of net v)) i (omega arith) places.0 in
    let second = within_short (length (paths_of net v)) j (omega arith) places.1 in
    let time = time_short t (none_broken (scene_breaks net count (Swap t v i j)) h Time) in
    let router : IsShort v = grind (arith, nat_tests) in
    record { said = said; short = (time, (router, (first, (second, tt)))); count = refl }
scene_short version net count (Forbid t v k) said is h =
    let broken = none_broken (scene_breaks net count (Forbid t v k)) h in
    let line = line_short net v k is (broken Range) (broken NoSuchPlace) in
    record { said = said; short = (time_short t (broken Time), (line.0, (line.1, tt))); count = refl }
scene_short version net count (Allow t v k) said is h =
    let broken = none_broken (scene_breaks net count (Allow t v k)) h in
    let line = line_short net v k is (broken Range) (broken NoSuchPlace) in
    record { said = said; short = (time_short t (broken Time), (line.0, (line.1, tt))); count = refl }
