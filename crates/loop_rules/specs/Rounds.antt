-- What a loop decides by the round that it is in. Moments are in milliseconds.
use Rattle.std.specs.Prelude.{ℕ, ◌+◌, ◌-◌, ◌/◌, max, min, Bool, true, false, not, ◌&&◌, ◌||◌, Option, None, Some, List, [], ◌∷◌, length, Ok, Err, cond, nat_eq, nat_le}
use Rattle.events.specs.Answer.{Answer}
use Rattle.events.specs.declared.fault.CoreFault.{CoreFault}
use Rattle.events.specs.declared.fault.CoreFault.TheVariants as fault
use Rattle.events.specs.declared.outcome.Outcome.TheVariants as outcome
use Rattle.loop_rules.specs.declared.rounds.Round.{Round}

-- the loop hasn't begun; it keeps the digits of clients for a minute
abbrev pub first : Round
first = record {
  now = 0;
  beat = 0;
  forgets = 60000;
  stints = 0;
  is_pressed = false;
  gives_up = false;
  tells = false;
  taken = 0;
  reached = 0;
  began = 0;
}

-- a round has 1,024 stints
abbrev pub next_of : Round → Round
next_of r = record r { stints = 1024 }

-- a hold of the lock has fewer events where takes have much: about 16 KiB together, and at least one
abbrev pub together_of : (most : ℕ) → Round → ℕ
together_of most r = max (min (16384 / max r.taken 1) most) 1

-- and fewer messages where these are put for many clients: for about 256 together, and at least one
abbrev pub speaking_of : (most : ℕ) → Round → ℕ
speaking_of most r = max (min (256 / max r.reached 1) most) 1

-- where those that go on brought packets, stints begin once in a moment
abbrev pub may_begin : (spoke : Bool) → Round → Bool
may_begin spoke r = not spoke || not (nat_eq r.began r.now)

abbrev pub begun : Round → Round
begun r = record r { stints = r.stints - 1; began = r.now }

-- for how many clients the first broadcast was put
abbrev pub first_reached : List (List ℕ) → ℕ
first_reached [] = 0
first_reached (ids ∷ more) = length ids

-- the last take of a WebSocket counts, and the last message
abbrev pub after_answer : Answer → (bytes : ℕ) → Round → Round
after_answer (Ok (outcome.Frames frames)) bytes r = record r { taken = bytes }
after_answer (Ok (outcome.Done done)) bytes r = record r { reached = first_reached done.clients }
after_answer _ bytes r = r

-- a loop sleeps until something is due, and for a second at the most
abbrev pub sleep_of : (due : ℕ) → Round → ℕ
sleep_of due r = min (due - r.now) 1000

abbrev pub is_beat : (everyone : Bool) → Round → Bool
is_beat everyone r = everyone || nat_le r.beat r.now

-- while a backend is pressed no digits are forgotten
abbrev pub forgets_digits : Round → Bool
forgets_digits r = not r.is_pressed && nat_le r.forgets r.now

-- a moment that is so much later, as far as a u64 goes
abbrev pub later_by : (pause now : ℕ) → ℕ
later_by pause now = min (now + pause) 18446744073709551615

-- the next beat comes a second later, and clients are looked for that are given up
abbrev pub after_beat : Round → Round
after_beat r = record r {
  beat = later_by 1000 r.now;
  forgets = cond (forgets_digits r) (later_by 60000 r.now) r.forgets;
  gives_up = true;
}

-- whether a backend is pressed, as it was shown or is known
abbrev pub is_pressed_by : Option ℕ → (known : Bool) → Bool
is_pressed_by None known = known
is_pressed_by (Some digits) known = not (nat_eq digits 0)

abbrev pub pressed_by : Option ℕ → Round → Round
pressed_by pressed r = record r { is_pressed = is_pressed_by pressed r.is_pressed }

abbrev pub is_unknown : CoreFault → Bool
is_unknown fault.UnknownClient = true
is_unknown _ = false

-- the core heard of the loss, or there was no such client
abbrev pub is_over : Answer → Bool
is_over (Ok (outcome.Lost saved done)) = true
is_over (Ok _) = false
is_over (Err e) = is_unknown e.fault

-- else it is told at the next beat
abbrev pub after_loss : Answer → Round → Round
after_loss got r = record r { gives_up = r.gives_up && is_over got }

-- 32 KiB are much
abbrev pub is_much_unsent : (unsent : ℕ) → Bool
is_much_unsent unsent = nat_le 32768 unsent
