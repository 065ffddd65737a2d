-- Hands with no messages (own).
use Rattle.std.specs.Prelude.{◌≡◌, []}
use Rattle.tw_table.specs.declared.hand.Hand.{Hand}

-- nothing is in a hand
pub record IsEmptyHand (h : Hand) : Type 0 where
  pub mail : h.mail.items ≡ []
  pub next : h.next ≡ 0
  pub out : h.out.items ≡ []
