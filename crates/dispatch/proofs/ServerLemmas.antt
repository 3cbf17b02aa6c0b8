-- What a core keeps from event to event.
use Rattle.std.proofs.Common.{◌≡◌, ℕ, ◌+◌, ◌≤◌, false, List, [], ◌∷◌, length, map, arith, refl, sym, ◌∙◌, ap, subst, Result, Ok, Err}
use Rattle.std.specs.Prelude.{◌≢◌, ◌==◌, ◌&&◌, ◌||◌, Bool, true, not, None, nat_lt, slice_index}
use Rattle.std.specs.List.{AllByRecursion, list_any}
use Rattle.std.proofs.lemmas.List.Elements.{All-nil, All-cons}
use Rattle.eio_wire.specs.Payload.{IsWhole}
use Rattle.terms.specs.Refusal.{first_refusal}
use Rattle.connection.specs.Line.{PlainLine}
use Rattle.journal.specs.declared.error.HubError.{HubError}
use Rattle.journal.specs.declared.step.Step.{Step}
use Rattle.journal.specs.Config.{is_namespace, has_repeat, is_bad_config, config_refusal, empty_base}
use Rattle.journal.specs.declared.error.HubError.TheVariants.{BadConfig}
use Rattle.journal.proofs.SocketsLemmas.{neither, is-not}
use Rattle.journal.specs.Plain.{Limits, PlainBase, PlainBaseClient}
use Rattle.journal.specs.Journal.{History}
use Rattle.journal.specs.Entries.{own_entries, AllPass}
use Rattle.journal.specs.Membership.{open_clients, is_open}
use Rattle.journal.specs.Seal.{PlainEpoch, base_client, client_of, IsSealed, SaysTheSame, Seals}
use Rattle.journal.proofs.EntriesLemmas.{what-waits}
use Rattle.journal.proofs.SealListsLemmas.{all-append}
use Rattle.journal.specs.Totals.{commands, handed_out}
use Rattle.hub_totals.specs.Pass.{PlainHub, PlainBooks, PlainPass}
use Rattle.hub_totals.proofs.CountingLemmas.{commands-grow, handed_out-grows}
use Rattle.events.specs.App.{Policy}
use Rattle.dispatch.specs.Following.{is_clean, is_turn, Follows}
use Rattle.events.specs.declared.event.Event.{Event}
use Rattle.events.specs.declared.event.Event.TheVariants as event
use Rattle.events.specs.Answer.{Answer}
use Rattle.dispatch.specs.declared.clients.Handshake.{Handshake}
use Rattle.dispatch.specs.Counting.{TurnsFor}
use Rattle.dispatch.specs.Machine.{Does, IsOf}
use Rattle.dispatch.specs.Holding.{Standing, PlainCore, Agree, IsClean}

-- ---- a new core

abbrev fresh : Limits → History
fresh limits = record { base = empty_base limits.first_offset; limits = limits; journal = [] }

nobody : (base : PlainBase) → base.clients ≡ [] → (d : ℕ) → false ≡ is_open base [] d
unfolding is_open open_clients
nobody base none d = rw none refl

pub agree-fresh : (limits : Limits) (h : History) (lines : List (ℕ × PlainLine)) → h ≡ fresh limits → lines ≡ [] → Agree h lines
agree-fresh limits h lines is none = rw (is, none) (nobody (empty_base limits.first_offset) refl)

-- no name of a namespace has a control character
above : (b : ℕ) → (b == 44 || nat_lt b 32) ≡ false → b ≢ 30
above b none is = absurd (cc (rw is at (neither (b == 44) (nat_lt b 32) none).1))

all-above : (name : List ℕ) → list_any (λ b. b == 44 || nat_lt b 32) name ≡ false → IsWhole name
all-above [] none = All-nil (λ (b : ℕ). b ≢ 30)
all-above (b ∷ name) none =
    let both = neither (b == 44 || nat_lt b 32) (list_any (λ b. b == 44 || nat_lt b 32) name) none in
    All-cons (λ (b : ℕ). b ≢ 30) b name (above b both.0) (all-above name both.1)

right-of : (a b : Bool) → (a && not b) ≡ true → b ≡ false
right-of true false e = refl
right-of true true e = absurd (cc e)
right-of false b e = absurd (cc e)

whole-names : (names : List (List ℕ)) → list_any (λ name. not (is_namespace name)) names ≡ false → AllByRecursion IsWhole names
whole-names [] none = tt
whole-names (name ∷ names) none =
    let both = neither (not (is_namespace name)) (list_any (λ name. not (is_namespace name)) names) none in
    (all-above name (right-of (slice_index name 0 == 47) _ (is-not (is_namespace name) both.0)), whole-names names both.1)

not-bad : (b : Bool) → first_refusal ((b, BadConfig) ∷ []) ≡ None → b ≡ false
not-bad false e = refl
not-bad true e = absurd (cc e)

last-of-all : (a b c d e f g h i j k : Bool) → (a || b || c || d || e || f || g || h || i || j || k) ≡ false → k ≡ false
last-of-all a b c d e f g h i j k none = (neither (a || b || c || d || e || f || g || h || i || j) k none).1

allowed-names : (limits : Limits) → config_refusal limits ≡ None → AllByRecursion IsWhole limits.spaces
allowed-names limits allowed =
    let fine = not-bad (is_bad_config limits) allowed in
    whole-names limits.spaces
    (last-of-all (limits.clients == 0) (limits.capacity == 0) (limits.bytes == 0) (limits.log == 0) (limits.log_bytes == 0) (limits.first_offset == 0) (nat_lt 65536 limits.capacity)
    (length limits.spaces == 0) (nat_lt 65536 (length limits.spaces)) (has_repeat limits.spaces) (list_any (λ name. not (is_namespace name)) limits.spaces) fine)

pub clean-fresh : (limits : Limits) (h : History) → config_refusal limits ≡ None → h ≡ fresh limits → IsClean h
clean-fresh limits h allowed is = rw is (record { names = allowed-names limits allowed; entries = record { base_clients = tt; base_log = tt; steps = tt } })

-- ---- an event

-- the steps of an event bring in only entries without U+001E
pub clean-after : (c : ℕ) (h g : History) → IsClean h → Follows (is_turn c) h g → IsClean g
clean-after c h g clean follows = rw (follows.base, follows.limits, follows.journal) (record {
  names = clean.names;
  entries = record {
    base_clients = clean.entries.base_clients;
    base_log = clean.entries.base_log;
    steps = all-append (λ (step : Step). AllPass is_clean (own_entries h.limits step.what)) follows.steps h.journal follows.clean clean.entries.steps;
  };
})

-- the totals that the steps of an event leave
pub grown : (c : ℕ) (h g : History) → Follows (is_turn c) h g → (m n : ℕ) → m ≡ commands h.base h.journal → n ≡ handed_out h.base h.journal
    → (m ≤ commands g.base g.journal) × (n ≤ handed_out g.base g.journal)
grown c h g f m n is taken = rw (f.base, f.journal, is, taken) (commands-grow h.base f.steps h.journal, handed_out-grows h.base f.steps h.journal)

-- a pass that was counted up to what the steps of an event left
pub turned : (c : ℕ) (before : PlainHub) (h g : History) (old new : PlainBooks) (p q : PlainPass) → before ≡ record { history = h; rest = old.rest } → Follows (is_turn c) h g
    → old.commands ≡ commands h.base h.journal → old.taken ≡ handed_out h.base h.journal
    → new ≡ record old { commands = commands g.base g.journal; taken = handed_out g.base g.journal }
    → (q.commands + old.commands ≡ p.commands + new.commands) × (q.taken + old.taken ≡ p.taken + new.taken) × (q.parts ≡ p.parts)
    → TurnsFor c before (record { history = g; rest = new.rest }) p q
turned c before h g old new p q is follows commands-are taken-are books pass = rw is (record {
  follows = follows;
  rises = record {
    commands = omega (arith, pass.0, commands-are, ap (λ (b : PlainBooks). b.commands) books);
    taken = omega (arith, pass.1, taken-are, ap (λ (b : PlainBooks). b.taken) books);
    parts = pass.2;
  };
  rest = ap (λ (b : PlainBooks). b.rest) books;
})

-- each event is of some client
pub of-some : (event : Event) (ids : ℕ → ℕ) → (c : ℕ) × IsOf event ids c
of-some (event.Opened socket) ids = (ids 0, refl)
of-some (event.Post c body) ids = (c, refl)
of-some (event.Frame c frame) ids = (c, refl)
of-some (event.PollBegin c) ids = (c, refl)
of-some (event.PollEnd c) ids = (c, refl)
of-some (event.PollTake c most) ids = (c, refl)
of-some (event.FrameTake c most) ids = (c, refl)
of-some (event.Probe c) ids = (c, refl)
of-some (event.Upgraded c) ids = (c, refl)
of-some (event.ProbeLost c) ids = (c, refl)
of-some (event.TransportLost c) ids = (c, refl)
of-some (event.Tick c) ids = (c, refl)
of-some event.Sweep ids = (0, tt)

-- ---- a seal

all-made : {A B : Type 0} (P : B → Type 0) (f : A → B) → ((x : A) → P (f x)) → (xs : List A) → AllByRecursion P (map f xs)
all-made P f each [] = tt
all-made P f each (x ∷ xs) = (each x, all-made P f each xs)

clean-sealed : (h g : History) → IsSealed h g → IsClean h → IsClean g
clean-sealed h g sealed clean =
    let holds = what-waits is_clean h.base h.limits h.journal clean.entries in
    record {
      names = subst (λ (limits : Limits). AllByRecursion IsWhole limits.spaces) (sym sealed.same_limits) clean.names;
      entries = record {
        base_clients = subst (AllByRecursion (λ (b : PlainBaseClient). AllPass is_clean b.waiting)) (sym sealed.leads.clients_are)
            (all-made (λ (b : PlainBaseClient). AllPass is_clean b.waiting) (base_client h.base h.limits h.journal) holds.waits (map client_of g.base.clients));
        base_log = rw sealed.leads.log_is holds.logged;
        steps = rw sealed.no_steps tt;
      };
    }

agree-sealed : (h g : History) (lines : List (ℕ × PlainLine)) → SaysTheSame h g → Agree h lines → Agree g lines
agree-sealed h g lines same agree = λ d. agree d ∙ sym (same.same_open d)

abbrev IsKept : List (ℕ × PlainLine) → History → Type 0
IsKept lines h = Agree h lines × IsClean h

pub kept-sealed : (r : Result PlainEpoch HubError) (lines : List (ℕ × PlainLine)) (old new : History) → Seals old r new → IsKept lines old → IsKept lines new
kept-sealed (Ok epoch) lines old new seals kept = (agree-sealed old new lines seals.same kept.0, clean-sealed old new seals.sealed kept.1)
kept-sealed (Err e) lines old new seals kept = subst (IsKept lines) (sym seals.1) kept

-- ---- a core with another hub

abbrev with_hub : PlainCore → PlainHub → PlainCore
with_hub core hub = record core { hub = hub }

pub kept-history : (lines : List (ℕ × PlainLine)) (old new : PlainHub) → new.history ≡ old.history → IsKept lines old.history → IsKept lines new.history
kept-history lines old new same kept = subst (IsKept lines) (sym same) kept

pub core-same : (core : PlainCore) (old new : PlainHub) → new ≡ old → with_hub core new ≡ with_hub core old
core-same core old new same = ap (with_hub core) same

pub core-history : (core : PlainCore) (old new : PlainHub) → new.history ≡ old.history → with_hub core new ≡ with_hub core (record old { rest = new.rest })
core-history core old new same = ap (λ (h : History). with_hub core (record { history = h; rest = new.rest })) same

pub core-parts : (core : PlainCore) (old new : PlainHub) → new.rest ≡ old.rest → with_hub core new ≡ with_hub core (record old { history = new.history })
core-parts core old new same = ap (λ (n : ℕ). with_hub core (record { history = new.history; rest = n })) same

-- ---- the machine

module _ (policy : Policy) (told : Handshake) where
  -- the row of this event
  pub does-as : (now : ℕ) (event named : Event) (s : Standing) (answer : Answer) (t : Standing) → event ≡ named
      → Does policy told now named s answer t → Does policy told now event s answer t
  does-as now event named s answer t is does = subst (λ (e : Event). Does policy told now e s answer t) (sym is) does
