-- An epidemic on a grid whose rows go on in one another (own): a healthy cell is infected by a contact, and then makes contact with
-- its four neighbours.
use Rattle.std.specs.Prelude.{ℕ, ◌+◌, ◌-◌, ◌*◌, ◌%◌, cond, false, true, not, List, [], ◌∷◌, nat_lt}
use Rattle.tw_process.specs.Behaviour.{Behaviour}
use Rattle.tw_process.specs.declared.event.Event.{Event}
use Rattle.tw_process.specs.declared.limits.TheConstants.{LATEST}
use Rattle.tw_epidemic.specs.declared.epidemic.Cell.{Cell}
use Rattle.tw_epidemic.specs.declared.epidemic.TheConstants.{MOST_CONTACTS}
use Rattle.tw_epidemic.specs.declared.epidemic.Epidemic.{Epidemic}

-- a contact carries nothing
abbrev pub Contact : Type 0
Contact = Event (Unit {0})

-- the cell that is so many places further on, and round
abbrev pub beyond : Epidemic → ℕ → ℕ → ℕ
beyond m here places = (here + places) % m.cells

-- a contact with the cell so many places on, after some number of ticks from 1 to the longest; a cell makes each of them once, so
-- its numbers are fixed
abbrev pub contact : Epidemic → Contact → ℕ → ℕ → Contact
contact m e places number =
    let there = beyond m e.dst places in
    record { time = e.time + (1 + (31 * e.dst + 17 * there) % m.longest); dst = there; src = e.dst; seq = number; body = tt }

-- the contacts that an infected cell makes: to the right, to the left, below and above
abbrev pub contacts : Epidemic → Contact → List Contact
contacts m e = contact m e 1 1 ∷ contact m e (m.cells - 1) 2 ∷ contact m e m.width 3 ∷ contact m e (m.cells - m.width) 4 ∷ []

-- the contact that begins it
abbrev pub first_contact : Epidemic → Contact
first_contact m = record { time = 1; dst = m.first; src = m.first; seq = 0; body = tt }

-- what an epidemic does
abbrev pub behaviour_of : Epidemic → Behaviour Cell Contact
behaviour_of m = record {
  processes = m.cells;
  start = λ r. record { infected = false; contacts = 0 };
  after = λ s e. record { infected = true; contacts = s.contacts + 1 };
  sends = λ s e. cond s.infected [] (contacts m e);
  opening = first_contact m ∷ [];
  most = 4;
  suits = λ e. nat_lt e.dst m.cells;
  number = λ s. cond s.infected 5 1;
  limit = 5;
  full = λ s e. not (nat_lt s.contacts MOST_CONTACTS);
  lookahead = 1;
  latest = LATEST;
}
