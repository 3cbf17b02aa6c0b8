-- A worked history: a client is lost twice and comes back each time, naming the
-- last offset that it got.
use Rattle.std.specs.Prelude.{◌≡◌, ℕ, List, [], ◌∷◌, Some}
use Rattle.terms.specs.Room.{own_room}
use Rattle.recovery.specs.PacketLog.{PlainLogged}
use Rattle.journal.specs.declared.socket.Socket.{Socket}
use Rattle.journal.specs.declared.step.Step.{Step}
use Rattle.journal.specs.declared.step.What.{What}
use Rattle.journal.specs.declared.step.What.TheVariants.{Opened, Attached, Recovered, Joined, Cast, Took, Parked}
use Rattle.journal.specs.Plain.{Limits, PlainBase}
use Rattle.journal.specs.Config.{empty_base}
use Rattle.continuity.specs.Heard.{heard, due_casts}

-- one namespace, and limits that nothing here reaches
abbrev pub limits : Limits
limits =
    record {
      clients = 8;
      capacity = 64;
      bytes = 65536;
      log = 16;
      log_bytes = 65536;
      saved = 8;
      keep = 1000;
      first_offset = 1;
      spaces = (47 ∷ []) ∷ [];
    }

abbrev pub new_hub : PlainBase
new_hub = empty_base 1

-- the room `r`
abbrev pub r : List ℕ
r = 114 ∷ []

abbrev pub step : ℕ → What → Step
step at what = record { at = at; what = what }

-- A's socket, and B's at one of its clients
abbrev pub socket_a : Socket
socket_a = record { client = 1; space = 0; sid = 2; pid = 3 }

abbrev pub socket_b : ℕ → Socket
socket_b c = record { client = c; space = 0; sid = 5; pid = 6 }

-- A says something in the room
abbrev pub said : ℕ → What
said offset =
    Cast (record {
      space = 0;
      rooms = r ∷ [];
      excepted = [];
      offset = Some offset;
      entry = record { text = []; attachments = [] };
      dropped = [];
    })

-- B comes back at a client
abbrev pub back : (client offset : ℕ) → (missed : List ℕ) → What
back c offset missed =
    Recovered (record {
      socket = socket_b c;
      offset = offset;
      rooms = own_room 5 ∷ r ∷ [];
      missed = missed;
    })

-- both connect and join the room; A says 1, B takes it; A says 2, which waits for B when it is
-- lost; A says 3, and a client is opened for B
abbrev pub first_loss : List Step
first_loss =
    step 13 (Opened 7)
    ∷ step 12 (said 3)
    ∷ step 11 (Parked 4)
    ∷ step 10 (said 2)
    ∷ step 9 (Took 4 16 1)
    ∷ step 8 (said 1)
    ∷ step 7 (Took 4 16 1)
    ∷ step 6 (Took 1 16 1)
    ∷ step 5 (Joined 5 r)
    ∷ step 4 (Joined 2 r)
    ∷ step 3 (Attached (socket_b 4))
    ∷ step 2 (Opened 4)
    ∷ step 1 (Attached socket_a)
    ∷ step 0 (Opened 1)
    ∷ []

-- then B comes back, naming 1
abbrev pub first_break : List Step
first_break = step 14 (back 7 1 (2 ∷ 3 ∷ [])) ∷ first_loss

-- B takes all that waits; A says 4, B takes it; B is lost, A says 5, and a client is opened for B
abbrev pub second_loss : List Step → List Step
second_loss before =
    step 20 (Opened 8) ∷ step 19 (said 5) ∷ step 18 (Parked 7)
    ∷ step 17 (Took 7 16 1) ∷ step 16 (said 4) ∷ step 15 (Took 7 16 3) ∷ before

-- then B comes back, naming 4, or 3 although it got 4
abbrev pub named_4 : List Step → List Step
named_4 before = step 21 (back 8 4 (5 ∷ [])) ∷ second_loss before

abbrev pub named_3 : List Step → List Step
named_3 before = step 21 (back 8 3 (4 ∷ 5 ∷ [])) ∷ second_loss before

-- a broadcast of the log, as a base has it
abbrev pub logged : (offset at : ℕ) → PlainLogged
logged offset at =
    record {
      offset = offset;
      at = at;
      space = 0;
      rooms = r ∷ [];
      excepted = [];
      entry = record { text = []; attachments = [] };
    }

-- the base that a seal makes after the first break
abbrev pub sealed : PlainBase
sealed =
    record {
      at = 14;
      next = Some 4;
      clients =
          record { client = 1; sockets = (0, 2, 3) ∷ []; waiting = [] }
          ∷ record { client = 7; sockets = (0, 5, 6) ∷ []; waiting = [] }
          ∷ [];
      pairs = (2, own_room 2) ∷ (2, r) ∷ (5, own_room 5) ∷ (5, r) ∷ [];
      log = logged 1 8 ∷ logged 2 10 ∷ logged 3 12 ∷ [];
      saved = [];
      totals =
          record { commands = 15; placed = 0; dropped = 0; taken = 0; discarded = 0; waiting = 0 };
    }

-- B has heard just these, which are just those that are due to it
abbrev pub BHears : PlainBase → List Step → List ℕ → Type 0
BHears base journal offsets =
    (heard base limits journal 6 ≡ offsets) × (due_casts base limits journal 6 ≡ offsets)
