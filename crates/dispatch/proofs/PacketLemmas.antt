-- What a packet does, put together from what its parts do.
use Rattle.std.proofs.Common.{◌≡◌, ◌≢◌, ◌⊎◌, ℕ, ◌==◌, Bool, true, false, ◌&&◌, ◌||◌, List, [], ◌∷◌, filter, refl, sym, ◌∙◌, ap, subst, arith, is_some, is_none, if◌then◌else◌, Option, None, Some, Result, Ok, Err, IfOk, IfErr, OnOk, inl, inr}
use Rattle.std.specs.List.{AllByRecursion, list_any, find}
use Rattle.std.specs.Map.{lookup}
use Rattle.std.specs.Option.{option_map}
use Rattle.std.proofs.lemmas.Bool.Decides.{nat_tests}
use Rattle.eio_wire.specs.declared.packet.Packet.{Packet}
use Rattle.sio_wire.specs.declared.assembler.SioPacket.{SioPacket}
use Rattle.sio_wire.specs.declared.header.Kind.{Kind}
use Rattle.sio_wire.specs.declared.header.Kind.TheVariants as kind
use Rattle.sio_wire.specs.declared.assembler.Progress.TheVariants.{Failed}
use Rattle.sio_wire.specs.declared.error.SioError.{SioError}
use Rattle.sio_wire.specs.declared.error.SioError.TheVariants as sio
use Rattle.sio_wire.specs.Frames.{text, binary, Accepts, RefusesText, binary_refusal}
use Rattle.connection.specs.Book.{answer_of}
use Rattle.connection.specs.Questions.{question_at}
use Rattle.connection.specs.declared.ack_book.Question.{Question}
use Rattle.connection.specs.History.{Framed, book_calls}
use Rattle.connection.specs.Line.{PlainLine, ForEachHistory, Advances, book_in}
use Rattle.journal.specs.declared.socket.Socket.{Socket}
use Rattle.journal.specs.Journal.{History}
use Rattle.journal.specs.Membership.{place_of, is_open, is_space, sid_of, has_id, socket_with, sockets, sockets_of, socket_of}
use Rattle.events.specs.declared.app.Who.{Who}
use Rattle.events.specs.App.{Policy}
use Rattle.dispatch.specs.Commands.{IsSeated}
use Rattle.events.specs.declared.cause.Cause.{Cause}
use Rattle.events.specs.declared.cause.Cause.TheVariants as cause
use Rattle.dispatch.specs.Effects.{Scene}
use Rattle.dispatch.specs.Scene.{visit_at}
use Rattle.dispatch.specs.Packets.{Course, Upshot, ClosesFor, Serves, DrawsNone, AsksToConnect, ServesJoined, Works, GoesOn, with_line, RefusesFrame, TakesText, ReadsBinary, Handles, HandlesOrBreaks, begun}

-- ---- questions

pub until_of : Option Question → ℕ
until_of None = 0
until_of (Some question) = question.until

-- the question that a socket's book holds under an id
abbrev pub held : PlainLine → (s id tag : ℕ) → Question
held l s id tag = record { tag = tag; until = until_of (lookup (λ key. id == key) (book_in l.books s).questions) }

-- an answer that gives a tag is to the question that the book holds
pub question-held : (l : PlainLine) (s id tag : ℕ) → ForEachHistory l (λ o h. Ok tag ≡ answer_of (question_at 0 (book_calls s h) id))
    → ForEachHistory l (λ o h. question_at 0 (book_calls s h) id ≡ Some (held l s id tag))
unfolding until_of
question-held l s id tag each o h leads =
    let same : question_at 0 (book_calls s h) id ≡ lookup (λ key. id == key) (book_in l.books s).questions = ap (lookup (λ key. id == key)) (sym (leads.books s).questions) in
    same ∙ on (lookup (λ key. id == key) (book_in l.books s).questions) (each o h leads ∙ ap answer_of same)
  where
    on : (q : Option Question) → ◌≡◌ {A = Result ℕ _} (Ok tag) (answer_of q) → q ≡ Some (record { tag = tag; until = until_of q })
    on None e = absurd (cc e)
    on (Some question) e = let same : tag ≡ question.tag = cc in rw same refl

-- ---- the socket of a client

-- what is found among a client's sockets is a connected socket at that place
abbrev Found : (P : Socket → Type 0) (c place : ℕ) (ks : List Socket) (k : Socket) → Type 0
Found P c place ks k = find (λ (l : Socket). l.space == place) (filter (λ (l : Socket). l.client == c) ks) ≡ Some k → P k × (k.space ≡ place) × (is_some (find (has_id sid_of k.sid) ks) ≡ true)

found-in : (P : Socket → Type 0) (c place : ℕ) (ks : List Socket) (k : Socket) → AllByRecursion P ks → Found P c place ks k
found-in P c place [] k all found = absurd (cc found)
found-in P c place (l ∷ ks) k all found = on (l.client == c) refl found (found-in P c place ks k all.1)
  where
    still : (b : Bool) → is_some (find (has_id sid_of k.sid) ks) ≡ true → is_some (if b then Some l else find (has_id sid_of k.sid) ks) ≡ true
    still true e = refl
    still false e = e

    at : (b : Bool) → (l.space == place) ≡ b → (if b then Some l else find (λ (l : Socket). l.space == place) (filter (λ (l : Socket). l.client == c) ks)) ≡ Some k → Found P c place ks k
        → P k × (k.space ≡ place) × (is_some (find (has_id sid_of k.sid) (l ∷ ks)) ≡ true)
    at true is here rest =
        let same : l ≡ k = cc in
        let space : l.space ≡ place = grind (arith, nat_tests, is) in
        let own : (k.sid == k.sid) ≡ true = grind (arith, nat_tests) in
        (subst P same all.0, ap (λ (k : Socket). k.space) (sym same) ∙ space, rw (same, own) refl)
    at false is there rest = let r = rest there in (r.0, r.1, still (l.sid == k.sid) r.2)

    on : (b : Bool) → (l.client == c) ≡ b → find (λ (l : Socket). l.space == place) (if b then l ∷ filter (λ (l : Socket). l.client == c) ks else filter (λ (l : Socket). l.client == c) ks) ≡ Some k → Found P c place ks k
        → P k × (k.space ≡ place) × (is_some (find (has_id sid_of k.sid) (l ∷ ks)) ≡ true)
    on true is found rest = at (l.space == place) refl found rest
    on false is found rest = let r = rest found in (r.0, r.1, still (l.sid == k.sid) r.2)

-- and is the client's
own-found : (c place : ℕ) (ks : List Socket) (k : Socket) → find (λ (l : Socket). l.space == place) (filter (λ (l : Socket). l.client == c) ks) ≡ Some k
    → list_any (λ (l : Socket). l.sid == k.sid && l.client == c) ks ≡ true
own-found c place [] k found = absurd (cc found)
own-found c place (l ∷ ks) k found = on (l.client == c) refl found (own-found c place ks k)
  where
    later : (b : Bool) → list_any (λ (l : Socket). l.sid == k.sid && l.client == c) ks ≡ true → (b || list_any (λ (l : Socket). l.sid == k.sid && l.client == c) ks) ≡ true
    later true e = refl
    later false e = e

    at : (b : Bool) → (l.client == c) ≡ true → (if b then Some l else find (λ (l : Socket). l.space == place) (filter (λ (l : Socket). l.client == c) ks)) ≡ Some k
        → (find (λ (l : Socket). l.space == place) (filter (λ (l : Socket). l.client == c) ks) ≡ Some k → list_any (λ (l : Socket). l.sid == k.sid && l.client == c) ks ≡ true)
        → list_any (λ (l : Socket). l.sid == k.sid && l.client == c) (l ∷ ks) ≡ true
    at true is here rest =
        let same : l ≡ k = cc in
        let client : (k.client == c) ≡ true = subst (λ (x : Socket). (x.client == c) ≡ true) same is in
        let own : (k.sid == k.sid) ≡ true = grind (arith, nat_tests) in
        rw (same, own, client) refl
    at false is there rest = later (l.sid == k.sid && l.client == c) (rest there)

    on : (b : Bool) → (l.client == c) ≡ b → find (λ (l : Socket). l.space == place) (if b then l ∷ filter (λ (l : Socket). l.client == c) ks else filter (λ (l : Socket). l.client == c) ks) ≡ Some k
        → (find (λ (l : Socket). l.space == place) (filter (λ (l : Socket). l.client == c) ks) ≡ Some k → list_any (λ (l : Socket). l.sid == k.sid && l.client == c) ks ≡ true)
        → list_any (λ (l : Socket). l.sid == k.sid && l.client == c) (l ∷ ks) ≡ true
    on true is found rest = at (l.space == place) is found rest
    on false is found rest = later (l.sid == k.sid && l.client == c) (rest found)

seated-found : (h : History) (who : Who) (k : Socket) → AllByRecursion (λ (l : Socket). is_space h.limits l.space ≡ true) (sockets h.base h.journal) → is_open h.base h.journal who.client ≡ true
    → socket_of h.base h.journal who.client (place_of h.limits who.space) ≡ Some k → who.sid ≡ k.sid → IsSeated who h
unfolding socket_of sockets_of socket_with
seated-found h who k in_spaces is_open found sid =
    let r = found-in (λ (l : Socket). is_space h.limits l.space ≡ true) who.client (place_of h.limits who.space) (sockets h.base h.journal) k in_spaces found in
    record {
      open_client = is_open;
      connected = rw sid r.2;
      own = rw sid (own-found who.client (place_of h.limits who.space) (sockets h.base h.journal) k found);
      in_space = subst (λ (place : ℕ). is_space h.limits place ≡ true) r.1 r.0;
    }

-- the socket whose id is known is seated
pub seated-at : (h : History) (who : Who) → AllByRecursion (λ (l : Socket). is_space h.limits l.space ≡ true) (sockets h.base h.journal) → is_open h.base h.journal who.client ≡ true
    → Some who.sid ≡ option_map sid_of (socket_of h.base h.journal who.client (place_of h.limits who.space)) → IsSeated who h
seated-at h who in_spaces is_open known = on (socket_of h.base h.journal who.client (place_of h.limits who.space)) refl known
  where
    on : (o : Option Socket) → socket_of h.base h.journal who.client (place_of h.limits who.space) ≡ o → Some who.sid ≡ option_map sid_of o → IsSeated who h
    on None found e = absurd (cc e)
    on (Some k) found e = seated-found h who k in_spaces is_open found cc

-- a packet of a socket that is connected
pub joined : (policy : Policy) (c : ℕ) (p : SioPacket) (now : ℕ) (s : Scene) (result : Upshot) (t : Scene) (sid : ℕ)
    → Some sid ≡ option_map sid_of (socket_of s.history.base s.history.journal c (place_of s.history.limits p.header.space))
    → IsSeated (record { client = c; space = p.header.space; sid = sid }) s.history
    → Serves policy (record { client = c; space = p.header.space; sid = sid }) p.header.payload p.attachments p.header.kind p.header.id (visit_at c now) s result t
    → ServesJoined policy p (visit_at c now) s result t
joined policy c p now s result t sid known seated serves = on (socket_of s.history.base s.history.journal c (place_of s.history.limits p.header.space)) known
  where
    on : (o : Option Socket) → Some sid ≡ option_map sid_of o → elim o as (λ (o : Option Socket). Type 0) [
      | None ↦ ClosesFor cause.NotJoined (visit_at c now) s result t
      | Some k ↦ IsSeated (record { client = c; space = p.header.space; sid = k.sid }) s.history
          × Serves policy (record { client = c; space = p.header.space; sid = k.sid }) p.header.payload p.attachments p.header.kind p.header.id (visit_at c now) s result t
    ]
    on None none = absurd (cc none)
    on (Some k) is = let same : sid ≡ k.sid = cc in (rw same at seated, rw same at serves)

-- ---- frames

module _ (policy : Policy) where
  pub works-joined : (c : ℕ) (p : SioPacket) (now : ℕ) (s : Course) (result : Upshot) (t : Course) → p.header.kind ≢ kind.Connect → DrawsNone (ServesJoined policy p (visit_at c now)) s result t → Works policy p (visit_at c now) s result t
  works-joined c p now s result t other serves = on p.header.kind other
    where
      on : (k : Kind) → k ≢ kind.Connect → elim k as (λ (k : Kind). Type 0) [ kind.Connect ↦ AsksToConnect policy p.header.space p.header.payload (visit_at c now) s result t | _ ↦ DrawsNone (ServesJoined policy p (visit_at c now)) s result t ]
      on kind.Connect other = absurd (other refl)
      on _ other = serves

  abbrev Fault : Course → PlainLine → (SioError → Type 0) → Result (Option SioPacket) SioError → Type 0
  Fault s line Refuses given = IfErr given (λ e. ((e ≡ sio.Memory) × (line ≡ s.scene.line)) ⊎ (Refuses e × (line ≡ record s.scene.line { assembler = Failed e })))

  -- a frame for which there was no memory
  short-of : (c now : ℕ) (s : Course) (line : PlainLine) (e : SioError) (result : Upshot) (t : Course) → e ≡ sio.Memory → line ≡ s.scene.line
      → GoesOn policy (Err e) (visit_at c now) (with_line s line) result t → GoesOn policy (Err sio.Memory) (visit_at c now) s result t
  short-of c now s line e result t is same on =
      subst (λ (l : PlainLine). GoesOn policy (Err sio.Memory) (visit_at c now) (with_line s l) result t) same
      (subst (λ (e : SioError). GoesOn policy (Err e) (visit_at c now) (with_line s line) result t) is on)

  refused-as : (c now : ℕ) (s : Course) (line : PlainLine) (e : SioError) (result : Upshot) (t : Course) → line ≡ record s.scene.line { assembler = Failed e }
      → GoesOn policy (Err e) (visit_at c now) (with_line s line) result t → RefusesFrame policy e (visit_at c now) s result t
  refused-as c now s line e result t is on = subst (λ (l : PlainLine). GoesOn policy (Err e) (visit_at c now) (with_line s l) result t) is on

  pub takes-text : (c : ℕ) (content : List ℕ) (now : ℕ) (s : Course) (line : PlainLine) (given : Result (Option SioPacket) SioError) (result : Upshot) (t : Course)
      → IfOk given (λ g. Accepts s.scene.line.assembler (text content) g line.assembler)
      → OnOk given (Advances s.scene.line (Framed (text content) ∷ []) line)
      → Fault s line (RefusesText s.scene.line.assembler content) given
      → GoesOn policy given (visit_at c now) (with_line s line) result t → TakesText policy content (visit_at c now) s result t
  takes-text c content now s line (Ok given) result t accepts advances fault on = inr (inl (given, line, accepts, advances, on))
  takes-text c content now s line (Err e) result t accepts advances (inl (is, same)) on = inl (short-of c now s line e result t is same on)
  takes-text c content now s line (Err e) result t accepts advances (inr (refuses, is)) on = inr (inr (e, refuses, refused-as c now s line e result t is on))

  pub reads-binary : (c : ℕ) (content : List ℕ) (now : ℕ) (s : Course) (line : PlainLine) (given : Result (Option SioPacket) SioError) (result : Upshot) (t : Course)
      → IfOk given (λ g. Accepts s.scene.line.assembler (binary content) g line.assembler)
      → OnOk given (Advances s.scene.line (Framed (binary content) ∷ []) line)
      → Fault s line (λ e. binary_refusal s.scene.line.assembler ≡ Some e) given
      → GoesOn policy given (visit_at c now) (with_line s line) result t → ReadsBinary policy content (visit_at c now) s result t
  reads-binary c content now s line (Ok given) result t accepts advances fault on = inr (inl (given, line, accepts, advances, on))
  reads-binary c content now s line (Err e) result t accepts advances (inl (is, same)) on = inl (short-of c now s line e result t is same on)
  reads-binary c content now s line (Err e) result t accepts advances (inr (refuses, is)) on = inr (inr (e, refuses, refused-as c now s line e result t is on))

  -- a packet in its turn, where the client wasn't closed
  pub in-turn : (c : ℕ) (packet : Packet) (now : ℕ) (s : Course) (result : Upshot) (t : Course) → is_some s.scene.done.closed ≡ false
      → Handles policy packet (visit_at c now) (begun s) result t → HandlesOrBreaks policy (visit_at c now) packet s result t
  in-turn c packet now s result t none handles = on s.scene.done.closed none
    where
      on : (o : Option Cause) → is_some o ≡ false → elim o as (λ (o : Option Cause). Type 0) [ Some why ↦ (result ≡ Ok tt) × (t ≡ s) | None ↦ Handles policy packet (visit_at c now) (begun s) result t ]
      on None none = handles
      on (Some why) none = absurd (cc none)

  -- and where it was
  pub out-of-turn : (c : ℕ) (packet : Packet) (now : ℕ) (s : Course) → is_some s.scene.done.closed ≡ true → HandlesOrBreaks policy (visit_at c now) packet s (Ok tt) s
  out-of-turn c packet now s closed = on s.scene.done.closed closed
    where
      on : (o : Option Cause) → is_some o ≡ true → elim o as (λ (o : Option Cause). Type 0) [ Some why ↦ (◌≡◌ {A = Upshot} (Ok tt) (Ok tt)) × (s ≡ s) | None ↦ Handles policy packet (visit_at c now) (begun s) (Ok tt) s ]
      on None closed = absurd (cc closed)
      on (Some why) closed = (refl, refl)

-- a client that no cause closed is open
pub still-open : (h : History) (c : ℕ) (o : Option Cause) → is_open h.base h.journal c ≡ is_none o → is_some o ≡ false → (is_open h.base h.journal c ≡ true) × (o ≡ None)
still-open h c None stays none = (stays, refl)
still-open h c (Some why) stays none = absurd (cc none)
