-- How a cast is answered.
use Rattle.std.proofs.Common.{◌≡◌, ◌⊎◌, ℕ, ◌==◌, Bool, true, false, refl, List, map, subst, sym, ap, ◌∙◌, Option, None, Some, Result, Ok, Err, inl, inr}
use Rattle.std.specs.Prelude.{nat_eq, IfOk}
use Rattle.std.specs.List.{list_any, flat_map, IsDistinct}
use Rattle.journal.specs.declared.error.HubError.{HubError}
use Rattle.journal.specs.declared.error.HubError.TheVariants.{Memory, Spent}
use Rattle.journal.specs.declared.step.What.TheVariants.{Cast}
use Rattle.journal.specs.declared.socket.Socket.{Socket}
use Rattle.journal.specs.declared.step.Step.{Step}
use Rattle.journal.specs.Plain.{PlainBase, Limits, PlainBroadcast, PlainCast, PlainCastDone, PlainMessage}
use Rattle.journal.specs.Journal.{History}
use Rattle.journal.specs.Membership.{sid_of, socket_with, sockets, is_in_space}
use Rattle.journal.specs.Legal.{IsSound}
use Rattle.journal.specs.Totals.{is_spent}
use Rattle.journal.specs.Refusals.{or_spent}
use Rattle.journal.specs.Casting.{in_space, ListsInside, client_of, Tells, refusal_of, has_no_offset, IsCastOf, IsShortOf, IsCastError, CastDoes}
use Rattle.journal.proofs.CastLemmas.{here-clients-once}
use Rattle.journal.proofs.CountsLemmas.{unspent}
use Rattle.hub_state.specs.Sending.{sent_to, done_of, Sends}

-- a refusal that can only be one of counts
spent-of : (spent : Bool) (e : HubError) → Some e ≡ or_spent None spent → (e ≡ Spent) × (spent ≡ true)
spent-of true e is = (cc, refl)
spent-of false e is = (cc, cc)

-- the broadcast that was asked for was sent, or nothing changed for want of memory or of a count
pub cast-does : (before after : History) (now : ℕ) (c : PlainCast) (b : PlainBroadcast) (messages : List PlainMessage) (result : Result PlainCastDone HubError)
    → IsCastOf before c b → refusal_of before c ≡ None → has_no_offset before c.form ≡ false → Tells before.base before.limits before.journal b messages
    → Sends before after now b result → IfOk result (λ done. done ≡ done_of b messages)
    → CastDoes before after now c result
cast-does before after now c b messages (Ok done) asked accepted numbered tells does is = (
  accepted,
  record {
    b = b;
    asked = asked;
    numbered = numbered;
    right = tells.right;
    unspent = unspent None _ (sym does.0);
    step = does.1;
    offset = ap (λ (d : PlainCastDone). d.offset) is;
    placed = ap (λ (d : PlainCastDone). d.placed) is ∙ tells.number;
    dropped = ap (λ (d : PlainCastDone). d.dropped) is;
    clients_once = subst (λ (d : PlainCastDone). IsDistinct nat_eq d.clients) (sym is) tells.apart;
    clients_are = λ q. ap (λ (d : PlainCastDone). list_any (λ e. e == q) d.clients) is ∙ tells.receivers q;
  },
)
cast-does before after now c b messages (Err e) asked accepted numbered tells does is = (subst (λ (o : Option HubError). IsCastError before c o e) (sym accepted) (short does.0), does.1)
  where
    short : (e ≡ Memory) ⊎ (Some e ≡ or_spent None (is_spent before.base before.limits before.journal (Cast b))) → IsShortOf before c e
    short (inl memory) = inl memory
    short (inr of_counts) =
        let s = spent-of (is_spent before.base before.limits before.journal (Cast b)) e of_counts in inr (s.0, inr (b, asked, tells.right, s.1))

-- what it drops is not asked for
pub asked-as-sent : (h : History) (c : PlainCast) (b : PlainBroadcast) (ks : List Socket) → IsCastOf h c b → IsCastOf h c (sent_to h ks b)
asked-as-sent h c b ks asked = record {
  space = asked.space;
  rooms = asked.rooms;
  excepted = asked.excepted;
  offset = asked.offset;
  text = record { fits = asked.text.fits; text = asked.text.text };
  attachments = asked.attachments;
}

-- no two of the sockets of a namespace are of one client
pub seated-once : (base : PlainBase) (limits : Limits) (journal : List Step) → IsSound base limits journal → (seat : ℕ → Option Socket) → ((s : ℕ) → seat s ≡ socket_with sid_of base journal s)
    → (space : ℕ) (test : ℕ → Bool) (sids : List ℕ) → ListsInside (is_in_space base journal space) test sids → IsDistinct nat_eq (map client_of (flat_map (λ s. in_space space (seat s)) sids))
unfolding socket_with
seated-once base limits journal sound seat seats space test sids lists = here-clients-once (sockets base journal) sound.sockets_apart seat seats space test sids lists
