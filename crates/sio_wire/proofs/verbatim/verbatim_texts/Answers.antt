use Rattle.std.proofs.Common.{rules, refl, ◌≡◌, [], ◌∷◌, ◌++◌, Some, subst, arith, append_assoc}
use Rattle.std.proofs.lemmas.Bool.Decides.{Decides-eqb}
use Rattle.std.proofs.lemmas.Slice.Eq.{slice_eq-Decides}
use Rattle.std.proofs.lemmas.Grind.{common_steps}
use Rattle.std.proofs.lemmas.Str.Pattern.{strip_prefix_char}
use Rattle.sio_wire.specs.Texts.{BeginsVerbatim}
use Rattle.sio_wire.proofs.VerbatimLemmas.{Leaves-last, Leaves-more, IsArrayOf-leaves}
use Rattle.sio_wire.proofs.verbatim.verbatim_texts.Goals as goal

pub texts-init : goal.texts-init
texts-init c =
    let rest = c.in-Some.rest in
    let opened : c.args.payload.now ≡ 91 ∷ rest.now = strip_prefix_char 91 c.args.payload.now (Some rest) c.in-Some.ensures.cases (omega arith) in
    record {
      found = λ texts leaves. (texts, rw opened (IsArrayOf-leaves rest.now texts leaves), rw c.new-found.ensures.items refl);
      utf8 = search rules;
    }

pub returns-then-eq : goal.returns-then-eq
returns-then-eq c =
    let text = c.in-Some-verbatim_text.text.now in
    let behind = c.in-Some-verbatim_text.behind.now in
    let closed : behind ≡ 93 ∷ [] = (slice_eq-Decides Decides-eqb behind (93 ∷ []) c.eq.result c.eq.ensures).0 c.if-eq.true in
    let begins : BeginsVerbatim c.texts.rest.now text (93 ∷ []) = subst (BeginsVerbatim c.texts.rest.now text) closed c.in-Some-verbatim_text.ensures in
    let pushed : c.push.new.self.items ≡ c.texts.found.items ++ Some text ∷ [] = grind (arith, common_steps) in
    rw pushed (c.texts.invariant.found (text ∷ []) (Leaves-last c.texts.rest.now text begins))

pub texts-preserved : goal.texts-preserved
texts-preserved c =
    let text = c.in-Some-verbatim_text.text.now in
    let behind = c.in-Some-verbatim_text.behind.now in
    let next = c.in-Some-strip_prefix.next in
    let comma : behind ≡ 44 ∷ next.now = strip_prefix_char 44 behind (Some next) c.in-Some-strip_prefix.ensures.cases (omega arith) in
    let begins : BeginsVerbatim c.texts.rest.now text (44 ∷ next.now) = subst (BeginsVerbatim c.texts.rest.now text) comma c.in-Some-verbatim_text.ensures in
    let pushed : c.push.new.self.items ≡ c.texts.found.items ++ Some text ∷ [] = grind (arith, common_steps) in
    record {
      found = λ texts leaves. rw (pushed, append_assoc) (c.texts.invariant.found (text ∷ texts) (Leaves-more c.texts.rest.now text next.now texts begins leaves));
      utf8 = search rules;
    }
