use Rattle.std.proofs.Common.{◌≡◌, ℕ, List, refl, ◌∙◌, ap, Option, None, Some}
use Rattle.sio_wire.specs.declared.tree.Resume.{Resume}
use Rattle.terms.proofs.HexadecimalLemmas.{hex_digits-injective}
use Rattle.dispatch.specs.Packets.{digits_of, Names}
use Rattle.dispatch.proofs.packets.named_once.Goals as goal

once : (payload : List ℕ) (one other : Option (ℕ × ℕ)) → Names payload one → Names payload other → one ≡ other
once payload None None absent also = refl
once payload None (Some named) absent (few, small, is) = absurd (absent named.0 named.1 small is)
once payload (Some named) None (few, small, is) absent = absurd (absent named.0 named.1 small is)
once payload (Some one) (Some other) (few, small, is) (fewer, smaller, also) =
    let same : digits_of one.0 one.1 ≡ digits_of other.0 other.1 = cc (is, also) in
    let pid : one.0 ≡ other.0 = hex_digits-injective 32 one.0 other.0 few fewer (ap (λ (r : Resume). r.pid) same) in
    let offset : one.1 ≡ other.1 = hex_digits-injective 16 one.1 other.1 small smaller (ap (λ (r : Resume). r.offset) same) in
    ap (λ (n : ℕ). Some (n, one.1)) pid ∙ ap (λ (n : ℕ). Some (other.0, n)) offset

pub returns : goal.returns
returns _ = once
