-- The frames that packets are sent as.
use Rattle.std.proofs.Common.{◌≡◌, ◌⊎◌, ℕ, zero, suc, ◌<◌, ◌≤◌, Bool, true, false, List, [], ◌∷◌, ◌++◌, map, length, take, codes, sym, refl, ◌∙◌, ap, subst, arith, inl, inr, Ok, Err, nat_lt}
use Rattle.std.specs.List.{AllZip, flat_map}
use Rattle.std.proofs.lemmas.List.{length-take}
use Rattle.std.proofs.lemmas.List.Concat.{flat_map-cons}
use Rattle.eio_wire.specs.declared.packet.Packet.{Packet}
use Rattle.eio_wire.specs.declared.packet.Packet.TheVariants.{Binary}
use Rattle.connection.specs.Line.{PlainLine, Advances}
use Rattle.terms.specs.declared.entry.Entry.{Entry}
use Rattle.journal.specs.Journal.{History}
use Rattle.journal.specs.Outboxes.{waiting}
use Rattle.events.specs.declared.fault.CoreFault.{CoreFault}
use Rattle.events.specs.declared.event.WsFrame.{WsFrame}
use Rattle.events.specs.declared.event.WsFrame.TheVariants as frame
use Rattle.events.specs.Frames.{PlainFrames, frames_of, frames_taken}
use Rattle.events.specs.declared.outcome.Outcome.TheVariants as outcome
use Rattle.dispatch.specs.Frames.{IsSentAs, Sends, SendsFirst}
use Rattle.dispatch.specs.Takes.{packets_of, handed, carried, Take, Counts, FailsToCount, ping_calls}

sent-append : (packets more : List Packet) (frames others : List WsFrame) → AllZip IsSentAs packets frames → AllZip IsSentAs more others
    → AllZip IsSentAs (packets ++ more) (frames ++ others)
sent-append [] more [] others all rest = rest
sent-append (p ∷ packets) more (f ∷ frames) others all rest = (all.0, sent-append packets more frames others all.1 rest)
sent-append [] more (f ∷ frames) others all rest = absurd all
sent-append (p ∷ packets) more [] others all rest = absurd all

sent-parts : (parts : List (List ℕ)) → AllZip IsSentAs (map Binary parts) (map frame.Bytes parts)
sent-parts [] = tt
sent-parts (attachment ∷ parts) = (refl, sent-parts parts)

sent-entry : (e : Entry) → AllZip IsSentAs (packets_of e) (frames_of e)
sent-entry e = ((codes "4" ++ e.text, refl, refl), sent-parts e.attachments)

sent-entries : (es : List Entry) → AllZip IsSentAs (flat_map packets_of es) (flat_map frames_of es)
sent-entries [] = tt
sent-entries (e ∷ es) =
    subst (λ (ps : List Packet). AllZip IsSentAs ps (flat_map frames_of (e ∷ es))) (sym (flat_map-cons packets_of e es))
    (subst (λ (fs : List WsFrame). AllZip IsSentAs (packets_of e ++ flat_map packets_of es) fs) (sym (flat_map-cons frames_of e es))
    (sent-append (packets_of e) (flat_map packets_of es) (frames_of e) (flat_map frames_of es) (sent-entry e) (sent-entries es)))

-- a ping where one is due, and then the entries, are sent as the frames of a take
pub sent-taken : (ping : Bool) (es : List Entry) → AllZip IsSentAs (carried ping es) (frames_taken ping es)
sent-taken true es = ((codes "2", refl, refl), sent-entries es)
sent-taken false es = sent-entries es

-- something is carried where a ping or an entry is
some-carried : (ping : Bool) (es : List Entry) → (ping ≡ true) ⊎ (0 < length es) → 0 < length (carried ping es)
some-carried true es some = omega arith
some-carried false [] (inl is) = absurd (cc is)
some-carried false [] (inr some) = absurd (omega (arith, some))
some-carried false (e ∷ es) some = subst (λ (ps : List Packet). 0 < length ps) (sym (flat_map-cons packets_of e es)) (omega arith)

-- a ping is due, or entries are taken
pub some-due : (ping : Bool) (w : List Entry) (n : ℕ) → n ≤ length w → (n ≡ 0 → ping ≡ true) → (ping ≡ true) ⊎ (0 < length (take n w))
some-due ping w zero within due = inl (due refl)
some-due ping w (suc n) within due = inr (omega (arith, length-take (suc n) w, within))

-- what stands for a take that has something to send
sends-some : (ping : Bool) (c n now : ℕ) (answer : Take) (h g : History) (old new : PlainLine) → (ping ≡ true) ⊎ (0 < length (handed h c n)) → Sends c n now ping answer h g old new
    → SendsFirst ping c n now answer h g old new
sends-some ping c n now answer h g old new some sends = inr (by (carried ping (handed h c n)) (some-carried ping (handed h c n) some))
  where
    by : (packets : List Packet) → 0 < length packets → elim packets as (λ (packets : List Packet). Type 0) [ [] ↦ (answer ≡ Ok outcome.Nothing) × (g ≡ h) × (new ≡ old) | packet ∷ others ↦ Sends c n now ping answer h g old new ]
    by [] more = absurd (omega (arith, more))
    by (packet ∷ others) more = sends

-- the entries were taken, and are sent
pub sends-first : (ping : Bool) (c n now : ℕ) (frames : PlainFrames) (entries : List Entry) (more : Bool) (h g : History) (old new : PlainLine) → (ping ≡ true) ⊎ (0 < length (handed h c n))
    → frames ≡ record { list = frames_taken ping entries; more = more } → entries ≡ handed h c n → more ≡ nat_lt n (length (waiting h.base h.limits h.journal c))
    → Counts c n now h g → Advances old (ping_calls ping) new → SendsFirst ping c n now (Ok (outcome.Frames frames)) h g old new
sends-first ping c n now frames entries more h g old new some is taken waits counts advances =
    let list = ap (λ (f : PlainFrames). f.list) is ∙ ap (λ (es : List Entry). frames_taken ping es) taken in
    let sent = subst (λ (fs : List WsFrame). AllZip IsSentAs (carried ping (handed h c n)) fs) (sym list) (sent-taken ping (handed h c n)) in
    sends-some ping c n now (Ok (outcome.Frames frames)) h g old new some (sent, counts, advances, ap (λ (f : PlainFrames). f.more) is ∙ waits)

-- their take stops, and nothing was taken
pub sends-none : (ping : Bool) (c n now : ℕ) (answer : Take) (fault : CoreFault) (h g : History) (old new : PlainLine) → answer ≡ Err fault → n ≤ length (waiting h.base h.limits h.journal c) → 0 < n
    → FailsToCount c n now h fault → g ≡ h → new ≡ old → SendsFirst ping c n now answer h g old new
sends-none ping c n now answer fault h g old new is within more fails same line =
    subst (λ (r : Take). SendsFirst ping c n now r h g old new) (sym is)
    (sends-some ping c n now (Err fault) h g old new (some-due ping (waiting h.base h.limits h.journal c) n within (λ none. absurd (omega (arith, none, more)))) (fault, fails, (refl, same, line)))
