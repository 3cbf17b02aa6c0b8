use Rattle.std.proofs.Common.{◌≡◌, ℕ, ◌+◌, ◌-◌, ◌≤◌, List, [], ◌∷◌, ◌++◌, None, length, take, slice_set, refl, sym, ap, ◌∙◌, arith, length-append, length-set, length-take}
use Rattle.std.proofs.lemmas.Bool.Decides.{nat_tests}
use Rattle.std.proofs.lemmas.Grind.{common_steps}
use Rattle.std.proofs.lemmas.Slice.{take-put_mid}
use Rattle.websocket.specs.Connection.{whole_header}
use Rattle.websocket.specs.Frame.{encode_frame}
use Rattle.websocket.specs.FrameHeader.{encode_header}
use Rattle.websocket.specs.OpCode.{opcode_bits}
use Rattle.websocket.specs.declared.protocol.frame.coding.OpCode.{OpCode}
use Rattle.peers.proofs.frame_socket.put_short.Goals as goal

-- a short frame has its length in the second byte
short_frame : (kind : OpCode) (payload : List ℕ) → length payload ≤ 125 → encode_frame (whole_header kind None) payload ≡ (128 + opcode_bits kind) ∷ length payload ∷ payload
unfolding encode_header
short_frame kind payload short = grind (arith, nat_tests, common_steps)

-- both bytes of the head stand in front
head_set : (frame : List ℕ) (x y : ℕ) → 2 ≤ length frame → take 2 (slice_set (slice_set frame 0 x) 1 y) ≡ x ∷ y ∷ []
head_set [] x y h = absurd (omega arith)
head_set (a ∷ []) x y h = absurd (omega arith)
head_set (a ∷ b ∷ frame) x y h = refl

-- as many elements can be taken as were
reaches : (n : ℕ) (all front back : List ℕ) → take n all ≡ front ++ back → n ≡ length front + length back → n ≤ length all
reaches n all front back e p = omega (arith, length-take n all, ap length e, length-append front back)

pub returns-clause-put : goal.returns-clause-put
returns-clause-put c =
    let start = c.args.start.now in
    let rest = c.args.rest.now in
    let middle = 2 + length start in
    let end = middle + length rest in
    let first = 128 + opcode_bits c.args.kind in
    let room : 2 ≤ length c.args.frame.now = omega (arith, c.told-frame) in
    let head = slice_set (slice_set c.args.frame.now 0 first) 1 (end - 2) in
    let front = take-put_mid 2 (middle - 2) head start middle refl (omega (arith, room, length-set c.args.frame.now 0 first, length-set (slice_set c.args.frame.now 0 first) 1 (end - 2)))
    ∙ ap (λ l. l ++ start) (head_set c.args.frame.now first (end - 2) room) in
    let size : end - 2 ≡ length (start ++ rest) = omega (arith, length-append start rest) in
    let short : length (start ++ rest) ≤ 125 = omega (arith, length-append start rest, c.requires) in
    rw (c.copy_from_slice.ensures.after, c.copy_from_slice-2.ensures.after, c.from.ensures) (
    take-put_mid middle _ _ rest end refl (reaches middle _ (first ∷ (end - 2) ∷ []) start front refl)
    ∙ ap (λ l. l ++ rest) front
    ∙ ap (λ n. first ∷ n ∷ (start ++ rest)) size
    ∙ sym (short_frame c.args.kind (start ++ rest) short)
    )
