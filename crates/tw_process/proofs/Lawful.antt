-- A simulation whose events have a total order that tells them apart, and which keeps what every model keeps, is lawful.
use Rattle.std.proofs.Common.{◌≡◌, ◌≤◌, true, false, refl, ap, arith}
use Rattle.std.specs.Cmp.{IsTotalOrder}
use Rattle.std.specs.Ordering.{is_lt, is_eq, ordering_reverse}
use Rattle.std.specs.declared.cmp.Ordering.{Ordering}
use Rattle.std.specs.declared.cmp.Ordering.TheVariants.{Less, Equal, Greater}
use Rattle.std.proofs.lemmas.Cmp.{tied_itself}
use Rattle.tw_process.specs.Behaviour.{Behaviour, IsBehaved, simulation_of}
use Rattle.tw_process.specs.Parts.{Parts}
use Rattle.tw_sim.specs.Simulation.{IsLawful}
use Rattle.tw_sim.proofs.Ordered.{IsOrder}

lt_less : (o : Ordering) → is_lt o ≡ true → o ≡ Less
lt_less Less h = refl
lt_less Equal h = cc
lt_less Greater h = cc

pub eq_equal : (o : Ordering) → is_eq o ≡ true → o ≡ Equal
eq_equal Less h = cc
eq_equal Equal h = refl
eq_equal Greater h = cc

neither : (o p : Ordering) → o ≡ ordering_reverse p → is_lt o ≡ false → is_lt p ≡ false → o ≡ Equal
neither Less p r h k = cc
neither Equal p r h k = refl
neither Greater Less r h k = cc
neither Greater Equal r h k = cc
neither Greater Greater r h k = cc

-- comparisons in a total order that tells events apart are an order of events
pub order_law : {E : Type 0} (cmp : E → E → Ordering) → IsTotalOrder cmp → ((d e : E) → cmp d e ≡ Equal → d ≡ e) → IsOrder (λ d e. is_lt (cmp d e)) (λ d e. is_eq (cmp d e))
order_law cmp order exact = record {
  same_is = λ x y h. exact x y (eq_equal (cmp x y) h);
  same_self = λ x. ap is_eq (tied_itself order x);
  not_self = λ x. ap is_lt (tied_itself order x);
  trans = λ x y z h k. ap is_lt (order.trans x y z (lt_less (cmp x y) h) (lt_less (cmp y z) k));
  total = λ x y h k. exact x y (neither (cmp x y) (cmp y x) (order.antisymm x y) h k);
}

module _ {S E : Type 0} (parts : Parts E) (cmp : E → E → Ordering) (b : Behaviour S E) where
  pub lawful : IsTotalOrder cmp → ((d e : E) → cmp d e ≡ Equal → d ≡ e) → ((d e : E) → cmp d e ≡ Less → parts.time d ≤ parts.time e)
      → IsBehaved (simulation_of parts cmp b) b.lookahead → IsLawful (simulation_of parts cmp b)
  lawful order exact timely behaved = record {
    same_is = (order_law cmp order exact).same_is;
    same_self = (order_law cmp order exact).same_self;
    not_self = (order_law cmp order exact).not_self;
    trans = (order_law cmp order exact).trans;
    total = (order_law cmp order exact).total;
    timely = λ x y h. timely x y (lt_less (cmp x y) h);
    later = λ s e x h. (let k = behaved.ahead s e x h in let p = behaved.positive in omega arith);
    sender = behaved.sender;
    few = behaved.few;
    suit_opening = behaved.suit_opening;
    suit_sends = behaved.suit_sends;
    receiver = behaved.receiver;
    opener = behaved.opener;
  }
