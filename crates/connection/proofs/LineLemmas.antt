-- What each call makes of a line, for every history that leads to it.
use Rattle.std.proofs.Common.{◌≡◌, ◌≢◌, ◌⊎◌, ℕ, ◌==◌, Bool, true, false, List, [], ◌∷◌, ◌++◌, refl, sym, ◌∙◌, ap, subst, Option, None, Some, Result, Ok, Err, inl, inr, filter, cond, nat_lt, IfOk, IfErr, IfSome, OnOk, OnErr, if◌then◌else◌}
use Rattle.sio_wire.specs.declared.assembler.SioPacket.{SioPacket}
use Rattle.sio_wire.specs.declared.assembler.Progress.{Progress}
use Rattle.sio_wire.specs.declared.assembler.Progress.TheVariants.{Ready, Waiting, Failed}
use Rattle.sio_wire.specs.declared.error.SioError.{SioError}
use Rattle.std.specs.Prelude.{unwrap_or}
use Rattle.std.proofs.lemmas.Bool.{eqb-true}
use Rattle.std.specs.Option.{option_to_list}
use Rattle.std.specs.Ordering.{nat_cmp}
use Rattle.std.specs.Map.{lookup}
use Rattle.std.specs.Map.Calls.{RetainsPairs}
use Rattle.std.specs.BTreeMap.{is_at}
use Rattle.sio_wire.specs.Frames.{Frame, text, binary, Groups, Accepted, Accepts, text_refusal, binary_refusal}
use Rattle.connection.specs.ClockHistory as clock_history
use Rattle.connection.specs.declared.clock.ClockError.{ClockError}
use Rattle.connection.specs.Clock as clock
use Rattle.connection.specs.declared.clock.Due.{Due}
use Rattle.connection.specs.declared.clock.Due.TheVariants.{Nothing, SendPing, PingTimeout, ConnectTimeout}
use Rattle.connection.specs.ClockContents as clock_contents
use Rattle.connection.specs.Questions as questions
use Rattle.connection.specs.declared.ack_book.AckError.{AckError}
use Rattle.connection.specs.declared.ack_book.Question.{Question}
use Rattle.connection.specs.Book as book
use Rattle.connection.specs.BookContents as book_contents
use Rattle.connection.specs.History.{Call, Framed, FrameRefused, Ticked, Ponged, Probed, Upgraded, ProbeLost, GetBegan, GetEnded, PingCarried, Connected, Disconnected, Asked, Answered, frames, failure, IsLegal, clock_calls, book_calls, is_getting, is_ping_due}
use Rattle.connection.specs.Line.{PlainLine, fresh_book, book_in, failure_of, FailsWith, HasTaken, LeadsTo, HasHistory, Advances}

-- calls that lead from each history to the next line lead from the one that there is
pub advanced : (old new : PlainLine) (calls : List Call) → Advances old calls new → HasHistory old → HasHistory new
advanced old new calls leads was = record { opening = was.opening; calls = calls ++ was.calls; leads = leads was.opening was.calls was.leads }

pub get-began : (l : PlainLine) → Advances l (GetBegan ∷ []) (record l { getting = true })
unfolding frames failure IsLegal clock_calls book_calls is_getting is_ping_due
get-began l o h leads = record { legal = leads.legal; taken = leads.taken; failed = leads.failed; clock = leads.clock; getting = refl; ping = leads.ping; books = leads.books }

pub get-ended : (l : PlainLine) → Advances l (GetEnded ∷ []) (record l { getting = false })
unfolding frames failure IsLegal clock_calls book_calls is_getting is_ping_due
get-ended l o h leads = record { legal = leads.legal; taken = leads.taken; failed = leads.failed; clock = leads.clock; getting = refl; ping = leads.ping; books = leads.books }

pub ping-carried : (l : PlainLine) → Advances l (PingCarried ∷ []) (record l { ping = false })
unfolding frames failure IsLegal clock_calls book_calls is_getting is_ping_due
ping-carried l o h leads = record { legal = leads.legal; taken = leads.taken; failed = leads.failed; clock = leads.clock; getting = leads.getting; ping = refl; books = leads.books }

-- ---- the clock

pub ponged : (l : PlainLine) (now : ℕ) (next : clock_contents.Contents) → clock.ForEachHistory l.clock (λ o h. clock.LeadsTo o (clock_history.Ponged now ∷ h) next)
    → Advances l (Ponged now ∷ []) (record l { clock = next })
unfolding frames failure IsLegal clock_calls book_calls is_getting is_ping_due
ponged l now next step o h leads =
    record { legal = leads.legal; taken = leads.taken; failed = leads.failed; clock = step o (clock_calls h) leads.clock; getting = leads.getting; ping = leads.ping; books = leads.books }

pub probed : (l : PlainLine) (next : clock_contents.Contents) → clock.ForEachHistory l.clock (λ o h. clock.LeadsTo o (clock_history.Probed ∷ h) next)
    → Advances l (Probed ∷ []) (record l { clock = next })
unfolding frames failure IsLegal clock_calls book_calls is_getting is_ping_due
probed l next step o h leads =
    record { legal = leads.legal; taken = leads.taken; failed = leads.failed; clock = step o (clock_calls h) leads.clock; getting = leads.getting; ping = leads.ping; books = leads.books }

pub upgraded : (l : PlainLine) (next : clock_contents.Contents) → clock.ForEachHistory l.clock (λ o h. clock.LeadsTo o (clock_history.Upgraded ∷ h) next)
    → Advances l (Upgraded ∷ []) (record l { clock = next })
unfolding frames failure IsLegal clock_calls book_calls is_getting is_ping_due
upgraded l next step o h leads =
    record { legal = leads.legal; taken = leads.taken; failed = leads.failed; clock = step o (clock_calls h) leads.clock; getting = leads.getting; ping = leads.ping; books = leads.books }

pub probe-lost : (l : PlainLine) (next : clock_contents.Contents) → clock.ForEachHistory l.clock (λ o h. clock.LeadsTo o (clock_history.ProbeLost ∷ h) next)
    → Advances l (ProbeLost ∷ []) (record l { clock = next })
unfolding frames failure IsLegal clock_calls book_calls is_getting is_ping_due
probe-lost l next step o h leads =
    record { legal = leads.legal; taken = leads.taken; failed = leads.failed; clock = step o (clock_calls h) leads.clock; getting = leads.getting; ping = leads.ping; books = leads.books }

-- what an accepted call says, and what a refused one does, of more
pub on_ok : {X E : Type 0} {P Q : Type 0} (result : Result X E) → (P → Q) → OnOk result P → OnOk result Q
on_ok (Ok x) f p = f p
on_ok (Err e) f p = tt

pub on_err : {X E : Type 0} {P Q : Type 0} (result : Result X E) → (P → Q) → OnErr result P → OnErr result Q
on_err (Ok x) f p = tt
on_err (Err e) f p = f p

-- a call of the clock that may be refused
pub turned : (l : PlainLine) (call : Call) (result : Result (Unit {0}) ClockError) (next : clock_contents.Contents) (H : Type 0) → (H → Advances l (call ∷ []) (record l { clock = next }))
    → OnOk result H → OnErr result (next ≡ l.clock) → HasHistory l → HasHistory (record l { clock = next })
turned l call (Ok done) next H step ok err was = advanced l (record l { clock = next }) (call ∷ []) (step ok) was
turned l call (Err e) next H step ok err was = subst (λ k. HasHistory (record l { clock = k })) (sym err) was

-- ---- the assembler

-- it hasn't failed
abbrev pub WorksOn : Progress → Type 0
WorksOn (Failed error) = ⊥
WorksOn progress = Unit {0}

pub packets-taken : (progress : Progress) (taken : List Frame) → WorksOn progress → HasTaken progress taken → (packets : List SioPacket) × Accepted progress taken packets
packets-taken Ready taken works all = all
packets-taken (Waiting packet) taken works all = all
packets-taken (Failed error) taken works all = absurd works

pub has-taken : (progress : Progress) (taken : List Frame) (packets : List SioPacket) → Accepted progress taken packets → HasTaken progress taken
has-taken Ready taken packets all = (packets, all)
has-taken (Waiting packet) taken packets all = (packets, all)
has-taken (Failed error) taken packets all = tt

-- nor has it after a frame that it took
none-failed : (progress : Progress) (taken : List Frame) (packets : List SioPacket) → Accepted progress taken packets → failure_of progress ≡ None
none-failed Ready taken packets all = refl
none-failed (Waiting packet) taken packets all = refl
none-failed (Failed error) taken packets all = absurd all.keeps

pub framed : (l : PlainLine) (frame : Frame) (given : Option SioPacket) (next : Progress) → WorksOn l.assembler → Accepts l.assembler frame given next
    → Advances l (Framed frame ∷ []) (record l { assembler = next })
unfolding frames failure IsLegal clock_calls book_calls is_getting is_ping_due
framed l frame given next works accepts o h leads =
    let before = packets-taken l.assembler (frames h) works leads.taken in
    let after = accepts (frames h) before.0 before.1 in
    let worked : failure h ≡ None = sym leads.failed ∙ none-failed l.assembler (frames h) before.0 before.1 in
    record {
      legal = (worked, leads.legal);
      taken = has-taken next (frames h ++ frame ∷ []) (before.0 ++ option_to_list given) after;
      failed = none-failed next (frames h ++ frame ∷ []) (before.0 ++ option_to_list given) after ∙ sym worked;
      clock = leads.clock;
      getting = leads.getting;
      ping = leads.ping;
      books = leads.books;
    }

-- it has failed
broken : (l : PlainLine) (error : SioError) → Advances l (FrameRefused error ∷ []) (record l { assembler = Failed error })
unfolding frames failure IsLegal clock_calls book_calls is_getting is_ping_due
broken l error o h leads = record { legal = leads.legal; taken = tt; failed = refl; clock = leads.clock; getting = leads.getting; ping = leads.ping; books = leads.books }

-- what is accepted as a text, or as bytes, hasn't come to a failed assembler
takes-text : (progress : Progress) (given : Option SioPacket) (X : SioError → Type 0) → IfSome (text_refusal progress) (λ error. (Ok given ≡ Err error) × X error) → WorksOn progress
takes-text Ready given X refused = tt
takes-text (Waiting packet) given X refused = tt
takes-text (Failed error) given X refused = absurd (cc refused.0)

takes-bytes : (progress : Progress) (given : Option SioPacket) (X : SioError → Type 0) → IfSome (binary_refusal progress) (λ error. (Ok given ≡ Err error) × X error) → WorksOn progress
takes-bytes Ready given X refused = tt
takes-bytes (Waiting packet) given X refused = tt
takes-bytes (Failed error) given X refused = absurd (cc refused.0)

-- after a frame, accepted or not, some history leads to the line
module _ (l : PlainLine) (frame : Frame) (next : Progress) (R : SioError → Type 0) where
  went-on : (result : Result (Option SioPacket) SioError) → ((given : Option SioPacket) → result ≡ Ok given → WorksOn l.assembler) → IfOk result (λ given. Accepts l.assembler frame given next)
      → IfErr result (λ e. ((e ≡ SioError.Memory) × (next ≡ l.assembler)) ⊎ (R e × (next ≡ Failed e))) → HasHistory l → HasHistory (record l { assembler = next })
  went-on (Ok given) works accepts fault was = advanced l (record l { assembler = next }) (Framed frame ∷ []) (framed l frame given next (works given refl) accepts) was
  went-on (Err e) works accepts (inl short) was = subst (λ p. HasHistory (record l { assembler = p })) (sym (short.1)) was
  went-on (Err e) works accepts (inr bad) was = subst (λ p. HasHistory (record l { assembler = p })) (sym (bad.1)) (advanced l (record l { assembler = Failed e }) (FrameRefused e ∷ []) (broken l e) was)

  advances-by : (result : Result (Option SioPacket) SioError) → ((given : Option SioPacket) → result ≡ Ok given → WorksOn l.assembler) → IfOk result (λ given. Accepts l.assembler frame given next)
      → OnOk result (Advances l (Framed frame ∷ []) (record l { assembler = next }))
  advances-by (Ok given) works accepts = framed l frame given next (works given refl) accepts
  advances-by (Err e) works accepts = tt

module _ (l : PlainLine) (next : Progress) (X : SioError → Type 0) (result : Result (Option SioPacket) SioError) where
  pub text-works : IfSome (text_refusal l.assembler) (λ error. (result ≡ Err error) × X error) → (given : Option SioPacket) → result ≡ Ok given → WorksOn l.assembler
  text-works refused given is = takes-text l.assembler given X (subst (λ r. IfSome (text_refusal l.assembler) (λ error. (r ≡ Err error) × X error)) is refused)

  pub bytes-work : IfSome (binary_refusal l.assembler) (λ error. (result ≡ Err error) × X error) → (given : Option SioPacket) → result ≡ Ok given → WorksOn l.assembler
  bytes-work refused given is = takes-bytes l.assembler given X (subst (λ r. IfSome (binary_refusal l.assembler) (λ error. (r ≡ Err error) × X error)) is refused)

  pub text-kept : (t : List ℕ) (R : SioError → Type 0) → IfSome (text_refusal l.assembler) (λ error. (result ≡ Err error) × X error) → IfOk result (λ given. Accepts l.assembler (text t) given next)
      → IfErr result (λ e. ((e ≡ SioError.Memory) × (next ≡ l.assembler)) ⊎ (R e × (next ≡ Failed e))) → HasHistory l → HasHistory (record l { assembler = next })
  text-kept t R refused = went-on l (text t) next R result (text-works refused)

  pub text-advances : (t : List ℕ) → IfSome (text_refusal l.assembler) (λ error. (result ≡ Err error) × X error) → IfOk result (λ given. Accepts l.assembler (text t) given next)
      → OnOk result (Advances l (Framed (text t) ∷ []) (record l { assembler = next }))
  text-advances t refused = advances-by l (text t) next X result (text-works refused)

  pub bytes-kept : (t : List ℕ) (R : SioError → Type 0) → IfSome (binary_refusal l.assembler) (λ error. (result ≡ Err error) × X error) → IfOk result (λ given. Accepts l.assembler (binary t) given next)
      → IfErr result (λ e. ((e ≡ SioError.Memory) × (next ≡ l.assembler)) ⊎ (R e × (next ≡ Failed e))) → HasHistory l → HasHistory (record l { assembler = next })
  bytes-kept t R refused = went-on l (binary t) next R result (bytes-work refused)

  pub bytes-advance : (t : List ℕ) → IfSome (binary_refusal l.assembler) (λ error. (result ≡ Err error) × X error) → IfOk result (λ given. Accepts l.assembler (binary t) given next)
      → OnOk result (Advances l (Framed (binary t) ∷ []) (record l { assembler = next }))
  bytes-advance t refused = advances-by l (binary t) next X result (bytes-work refused)

-- after an error other than Memory the assembler has failed, and nothing else has changed
pub faulty : (l : PlainLine) (next : Progress) (R : SioError → Type 0) (result : Result (Option SioPacket) SioError)
    → IfErr result (λ e. ((e ≡ SioError.Memory) × (next ≡ l.assembler)) ⊎ (R e × (next ≡ Failed e)))
    → IfErr result (λ e. ((e ≡ SioError.Memory) × (record l { assembler = next } ≡ l)) ⊎ (R e × FailsWith e l (record l { assembler = next })))
faulty l next R (Ok given) fault = tt
faulty l next R (Err e) (inl short) = inl (short.0, ap (λ p. record l { assembler = p }) short.1)
faulty l next R (Err e) (inr bad) = inr (bad.0, ap (λ p. record l { assembler = p }) bad.1)

-- ---- the books

pub fresh-is : (b : book_contents.Contents) → book.LeadsTo 0 [] b → b ≡ fresh_book
unfolding questions.asks questions.open_questions
fresh-is b leads = ap (λ n. record { next = n; questions = b.questions }) leads.next ∙ ap (λ q. record { next = 0; questions = q }) leads.questions

pub is-fresh : book.LeadsTo 0 [] fresh_book
unfolding book.IsLegal questions.asks questions.open_questions
is-fresh = record { legal = tt; next = refl; questions = refl }

-- a line that was opened, with nothing taken and no books
pub opened : (o : clock_history.Opening) (progress : Progress) (time : clock_contents.Contents) (books : List (ℕ × book_contents.Contents)) → progress ≡ Ready → clock.LeadsTo o [] time → books ≡ []
    → LeadsTo o [] (record { assembler = progress; clock = time; getting = false; ping = false; books = books })
unfolding frames failure IsLegal clock_calls book_calls is_getting is_ping_due Groups
opened o progress time books ready time-leads none =
    record {
      legal = tt;
      taken = subst (λ p. HasTaken p []) (sym ready) ([], record { rest = []; groups = refl; keeps = refl });
      failed = ap failure_of ready;
      clock = time-leads;
      getting = refl;
      ping = refl;
      books = λ s. subst (λ b. book.LeadsTo 0 [] (book_in b s)) (sym none) is-fresh;
    }

-- a socket's book begins anew
forgotten : (l : PlainLine) (h : List Call) (sid : ℕ) (books : (s : ℕ) → book.LeadsTo 0 (book_calls s h) (book_in l.books s)) (s : ℕ) (b : Bool)
    → book.LeadsTo 0 (if b then [] else book_calls s h) (if b then fresh_book else book_in l.books s)
forgotten l h sid books s true = is-fresh
forgotten l h sid books s false = books s

pub left : (l : PlainLine) (sid : ℕ) (next : List (ℕ × book_contents.Contents)) → ((s : ℕ) → book_in next s ≡ (if sid == s then fresh_book else book_in l.books s))
    → Advances l (Disconnected sid ∷ []) (record l { books = next })
unfolding frames failure IsLegal clock_calls book_calls is_getting is_ping_due
left l sid next forgets o h leads =
    record {
      legal = leads.legal;
      taken = leads.taken;
      failed = leads.failed;
      clock = leads.clock;
      getting = leads.getting;
      ping = leads.ping;
      books = λ s. subst (book.LeadsTo 0 (if sid == s then [] else book_calls s h)) (sym (forgets s)) (forgotten l h sid leads.books s (sid == s));
    }

pub entered : (l : PlainLine) (sid : ℕ) (clock-after : clock_contents.Contents) (next : List (ℕ × book_contents.Contents))
    → clock.ForEachHistory l.clock (λ o h. clock.LeadsTo o (clock_history.Joined ∷ h) clock-after)
    → ((s : ℕ) → book_in next s ≡ (if sid == s then fresh_book else book_in l.books s))
    → Advances l (Connected sid ∷ []) (record l { clock = clock-after; books = next })
unfolding frames failure IsLegal clock_calls book_calls is_getting is_ping_due
entered l sid clock-after next step forgets o h leads =
    record {
      legal = leads.legal;
      taken = leads.taken;
      failed = leads.failed;
      clock = step o (clock_calls h) leads.clock;
      getting = leads.getting;
      ping = leads.ping;
      books = λ s. subst (book.LeadsTo 0 (if sid == s then [] else book_calls s h)) (sym (forgets s)) (forgotten l h sid leads.books s (sid == s));
    }

-- one socket's book was called, and the others are as they were
module _ (l : PlainLine) (sid : ℕ) (next : List (ℕ × book_contents.Contents)) (others : (s : ℕ) → (sid == s) ≡ false → book_in next s ≡ book_in l.books s) where
  called : (call : questions.Call) (h : List Call) (leads : (s : ℕ) → book.LeadsTo 0 (book_calls s h) (book_in l.books s))
      → book.LeadsTo 0 (call ∷ book_calls sid h) (book_in next sid) → (s : ℕ) (b : Bool) → (sid == s) ≡ b → book.LeadsTo 0 (if b then call ∷ book_calls s h else book_calls s h) (book_in next s)
  called call h leads own s true is = subst (λ t. book.LeadsTo 0 (call ∷ book_calls t h) (book_in next t)) (eqb-true sid s is) own
  called call h leads own s false is = subst (book.LeadsTo 0 (book_calls s h)) (sym (others s is)) (leads s)

  pub asked : (tag until : ℕ) → book.ForEachHistory (book_in l.books sid) (λ first h. book.LeadsTo first (questions.Asked tag until ∷ h) (book_in next sid))
      → Advances l (Asked sid tag until ∷ []) (record l { books = next })
  unfolding frames failure IsLegal clock_calls book_calls is_getting is_ping_due
  asked tag until own o h leads =
      record {
        legal = leads.legal;
        taken = leads.taken;
        failed = leads.failed;
        clock = leads.clock;
        getting = leads.getting;
        ping = leads.ping;
        books = λ s. called (questions.Asked tag until) h leads.books (own 0 (book_calls sid h) (leads.books sid)) s (sid == s) refl;
      }

  pub answered : (id : ℕ) → book.ForEachHistory (book_in l.books sid) (λ first h. book.LeadsTo first (questions.Answered id ∷ h) (book_in next sid))
      → Advances l (Answered sid id ∷ []) (record l { books = next })
  unfolding frames failure IsLegal clock_calls book_calls is_getting is_ping_due
  answered id own o h leads =
      record {
        legal = leads.legal;
        taken = leads.taken;
        failed = leads.failed;
        clock = leads.clock;
        getting = leads.getting;
        ping = leads.ping;
        books = λ s. called (questions.Answered id) h leads.books (own 0 (book_calls sid h) (leads.books sid)) s (sid == s) refl;
      }

  same-book : (s : ℕ) (b : Bool) → (sid == s) ≡ b → book_in next sid ≡ book_in l.books sid → book_in next s ≡ book_in l.books s
  same-book s true is own = subst (λ t. book_in next t ≡ book_in l.books t) (eqb-true sid s is) own
  same-book s false is own = others s is

  -- a refused call leaves all books as they were
  pub refused : book_in next sid ≡ book_in l.books sid → Advances l [] (record l { books = next })
  refused own o h leads =
      record {
        legal = leads.legal;
        taken = leads.taken;
        failed = leads.failed;
        clock = leads.clock;
        getting = leads.getting;
        ping = leads.ping;
        books = λ s. subst (book.LeadsTo 0 (book_calls s h)) (sym (same-book s (sid == s) refl own)) (leads.books s);
      }

  -- after a call, accepted or not, some history leads to the line
  pub kept : (calls : List Call) {X : Type 0} (result : Result X AckError) → OnOk result (Advances l calls (record l { books = next }))
      → OnErr result (book_in next sid ≡ book_in l.books sid) → HasHistory l → HasHistory (record l { books = next })
  kept calls (Ok x) ok err was = advanced l (record l { books = next }) calls ok was
  kept calls (Err e) ok err was = advanced l (record l { books = next }) [] (refused err) was

-- an expiry of a fresh book leaves it fresh
fresh-expired : (now first : ℕ) (h : List questions.Call) → book.LeadsTo first h fresh_book → book.LeadsTo first (questions.Expired now ∷ h) fresh_book
unfolding book.IsLegal questions.asks questions.open_questions
fresh-expired now first h leads = record { legal = leads.legal; next = leads.next; questions = ap (filter (λ (entry : ℕ × Question). nat_lt now entry.1.until)) leads.questions }

-- each book is kept, and led on by an expiry, where a closure does so to each
pub all-expired : {F : Type 0} (T : F → ℕ → book_contents.Contents → Bool → book_contents.Contents → F → Type 0) (now : ℕ) (f : F)
    → ((k : ℕ) (v : book_contents.Contents) (b : Bool) (w : book_contents.Contents) (g : F) → T f k v b w g → (b ≡ true) × (book.ForEachHistory v (λ first h. book.LeadsTo first (questions.Expired now ∷ h) w)) × (g ≡ f))
    → (es kept : List (ℕ × book_contents.Contents)) → RetainsPairs T f es kept → (s : ℕ) → book.ForEachHistory (book_in es s) (λ first h. book.LeadsTo first (questions.Expired now ∷ h) (book_in kept s))
all-expired T now f does [] kept retains s = subst (λ es. book.ForEachHistory fresh_book (λ first h. book.LeadsTo first (questions.Expired now ∷ h) (book_in es s))) (sym retains) (fresh-expired now)
all-expired {F} T now f does (e ∷ es) kept (b, w, g, rest, called, retains, is) s =
    let one = does e.0 e.1 b w g called in
    let whole : kept ≡ (e.0, w) ∷ rest = is ∙ ap (λ c. cond c ((e.0, w) ∷ rest) rest) one.0 in
    let others = all-expired T now f does es rest (subst (λ k. RetainsPairs T k es rest) one.2 retains) s in
    subst (λ es'. book.ForEachHistory (book_in (e ∷ es) s) (λ first h. book.LeadsTo first (questions.Expired now ∷ h) (book_in es' s))) (sym whole) (on (is_at (nat_cmp s) e.0) one.1 others)
  where
    on : (t : Bool) → book.ForEachHistory e.1 (λ first h. book.LeadsTo first (questions.Expired now ∷ h) w) → book.ForEachHistory (book_in es s) (λ first h. book.LeadsTo first (questions.Expired now ∷ h) (book_in rest s))
        → book.ForEachHistory (unwrap_or (cond t (Some e.1) (lookup (is_at (nat_cmp s)) es)) fresh_book) (λ first h. book.LeadsTo first (questions.Expired now ∷ h) (unwrap_or (cond t (Some w) (lookup (is_at (nat_cmp s)) rest)) fresh_book))
    on true own others = own
    on false own others = others

-- a ping is due after a tick that was answered so, where one was due before it or not
abbrev pub ping_after : Due → Bool → Bool
ping_after SendPing ping = true
ping_after _ ping = ping

pub still-due : (due : Due) (ping : Bool) → due ≢ SendPing → ping ≡ ping_after due ping
still-due SendPing ping other = absurd (other refl)
still-due Nothing ping other = refl
still-due PingTimeout ping other = refl
still-due ConnectTimeout ping other = refl

-- a tick: every question that ran out is forgotten, the clock is called, and a ping may be due
pub ticked : (l : PlainLine) (now : ℕ) (due : Due) (clock-after : clock_contents.Contents) (next : List (ℕ × book_contents.Contents))
    → clock.ForEachHistory l.clock (λ o h. clock.LeadsTo o (clock_history.Ticked now due ∷ h) clock-after)
    → ((s : ℕ) → book.ForEachHistory (book_in l.books s) (λ first h. book.LeadsTo first (questions.Expired now ∷ h) (book_in next s)))
    → Advances l (Ticked now due ∷ []) (record l { clock = clock-after; ping = ping_after due l.ping; books = next })
unfolding frames failure IsLegal clock_calls book_calls is_getting is_ping_due
ticked l now due clock-after next step expires o h leads =
    record {
      legal = leads.legal;
      taken = leads.taken;
      failed = leads.failed;
      clock = step o (clock_calls h) leads.clock;
      getting = leads.getting;
      ping = pinged due;
      books = λ s. expires s 0 (book_calls s h) (leads.books s);
    }
  where
    pinged : (d : Due) → ping_after d l.ping ≡ is_ping_due (Ticked now d ∷ h)
    pinged SendPing = refl
    pinged Nothing = leads.ping
    pinged PingTimeout = leads.ping
    pinged ConnectTimeout = leads.ping
