-- A broadcast that is sent: its messages, its drops and whether it can be counted, by what the state holds.
use Rattle.std.proofs.Common.{◌≡◌, ◌∙◌, ℕ, ◌+◌, ◌≤◌, Bool, ◌||◌, List, length, map, sym, ap, arith, Option, nat_eq}
use Rattle.std.specs.HashMap.{get}
use Rattle.std.specs.Option.{option_map}
use Rattle.journal.specs.declared.socket.Socket.{Socket}
use Rattle.journal.specs.declared.step.What.TheVariants.{Cast}
use Rattle.journal.specs.Plain.{PlainBroadcast, PlainClient, PlainMessage}
use Rattle.journal.specs.Outboxes.{entries_for}
use Rattle.journal.specs.Broadcast.{IsOfAForm}
use Rattle.journal.specs.Totals.{is_past, is_spent}
use Rattle.journal.specs.Casting.{messages_for, missing, pair_of, receiver_of, with_entries, Tells}
use Rattle.journal.proofs.CastLemmas.{length-map}
use Rattle.journal.proofs.CountsLemmas.{spent_for}
use Rattle.hub_state.specs.declared.state.State.TheInside.{Inside}
use Rattle.hub_state.specs.Inside.{Describes, history_of}
use Rattle.hub_state.specs.Sending.{sent_to, messages_to}

module _ (h : Inside) (holds : Describes h) (b : PlainBroadcast) (ks : List Socket) where
  abbrev sent : PlainBroadcast
  sent = sent_to (history_of h) ks b

  abbrev messages : List PlainMessage
  messages = messages_to (history_of h) ks b

  same-messages : messages_for (get nat_eq h.clients) b.entry ks ≡ messages
  same-messages = λ i. messages_for (λ q. holds.0.clients q i) b.entry ks

  -- what was put
  pub same-put : (new : ℕ → Option PlainClient) → ((q : ℕ) → new q ≡ option_map (with_entries (entries_for q (map pair_of (messages_for (get nat_eq h.clients) b.entry ks)))) (get nat_eq h.clients q))
      → (q : ℕ) → new q ≡ option_map (with_entries (entries_for q (map pair_of messages))) (get nat_eq h.clients q)
  same-put new put q = put q ∙ ap (λ ms. option_map (with_entries (entries_for q (map pair_of ms))) (get nat_eq h.clients q)) same-messages

  -- it is of a form still
  pub sent-formed : IsOfAForm h.limits b → IsOfAForm h.limits sent
  sent-formed f = record {
    form = f.form;
    payload = f.payload;
    refusal = f.refusal;
    text = record { fits = f.text.fits; text = f.text.text };
    logged = f.logged;
  }

  module _ (reached lost : List ℕ) (told : reached ≡ map receiver_of (messages_for (get nat_eq h.clients) b.entry ks)) (missed : lost ≡ missing (get nat_eq h.clients) b.entry ks) where
    -- those that got it, and those that miss it
    pub same-reached : reached ≡ map receiver_of messages
    same-reached = told ∙ ap (map receiver_of) same-messages

    pub same-lost : lost ≡ sent.dropped
    same-lost = missed ∙ (λ i. missing (λ q. holds.0.clients q i) b.entry ks)

    pub number-reached : length reached ≡ length messages
    number-reached = ap length same-reached ∙ length-map receiver_of messages

    -- whether it can be counted
    pub passes-spent : Tells h.base h.limits h.records.steps.steps sent messages → (passes : Bool) (puts drops : ℕ)
        → passes ≡ (is_past (h.records.counts.commands + 1) || is_past (h.records.counts.placed + puts) || is_past (h.records.counts.dropped + drops))
        → h.records.counts.placed ≤ 18446744073709551615 → puts ≡ length reached → drops ≡ length lost
        → passes ≡ is_spent h.base h.limits h.records.steps.steps (Cast sent)
    passes-spent tells passes puts drops e small number left =
        let was = holds.3 in
        let p = was.placed in
        spent_for h.base h.limits h.records.steps.steps h.records.counts was holds.2.conserved (omega (arith, p, small)) puts drops passes
        (e ∙ (λ i. is_past (was.commands i + 1) || is_past (was.placed i + puts) || is_past (was.dropped i + drops)))
        (Cast sent) (sym tells.number ∙ sym (number ∙ number-reached)) (sym (left ∙ ap length same-lost)) (omega arith)
