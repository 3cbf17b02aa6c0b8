-- What stood so that something came for it since its last look began doesn't rest.
use Rattle.std.proofs.Common.{◌≡◌, ℕ, Bool, true, false, ◌&&◌, List, [], ◌∷◌, cond, refl, subst, nat_eq}
use Rattle.loop_rules.specs.declared.looks.LookState.{LookState}
use Rattle.loop_rules.specs.declared.looks.LookState.TheVariants as state
use Rattle.loop_rules.specs.declared.looks.Found.{Found}
use Rattle.loop_rules.specs.declared.looks.Found.TheVariants as found
use Rattle.loop_rules.specs.declared.looks.Pause.{Pause}
use Rattle.loop_rules.specs.declared.looks.Pause.TheVariants as pause
use Rattle.loop_rules.specs.declared.looks.Decision.{Decision}
use Rattle.loop_rules.specs.declared.looks.Decision.TheVariants as decision
use Rattle.loop_rules.specs.Decisions.{decision_for}
use Rattle.loop_rules.specs.Looks.{is_awake, called, takes_yet, put_for, begun, paused, followed, is_dry, is_calm, finds_dry, has_looked, may_rest, Step, Comes, Puts, Begins, Follows, Pauses, state_after, was_dry, is_under_way, came_since_look, NeverRests}

awake-called : (s : LookState) → is_awake (called s) ≡ true
awake-called state.Rests = refl
awake-called state.Called = refl
awake-called state.Again = refl
awake-called state.Full = refl
awake-called state.Early = refl
awake-called (state.Looks dry) = refl
awake-called (state.Stirred dry) = refl

-- where something was put, one that was awake or has no look that takes it is so
awake-put : (s : LookState) (came : Bool) → (came ≡ true → is_awake s ≡ true) → cond (takes_yet s) came true ≡ true → is_awake (put_for s) ≡ true
awake-put state.Rests came was c = refl
awake-put state.Called came was c = refl
awake-put state.Again came was c = refl
awake-put state.Full came was c = refl
awake-put state.Early came was c = refl
awake-put (state.Looks true) came was c = refl
awake-put (state.Looks false) came was c = was c
awake-put (state.Stirred dry) came was c = refl

-- it rests, or is called: no look is under way
rests-or-called : LookState → Bool
rests-or-called state.Rests = true
rests-or-called state.Called = true
rests-or-called _ = false

awake-begun : (s : LookState) → is_awake s ≡ true → rests-or-called s ≡ false → is_awake (begun s) ≡ true
unfolding rests-or-called
awake-begun state.Rests a r = absurd (cc)
awake-begun state.Called a r = absurd (cc)
awake-begun state.Again a r = refl
awake-begun state.Full a r = refl
awake-begun state.Early a r = refl
awake-begun (state.Looks dry) a r = absurd (cc)
awake-begun (state.Stirred dry) a r = refl

awake-paused : (s : LookState) (p : Pause) → is_awake s ≡ true → is_awake (paused s p) ≡ true
awake-paused s pause.Full a = refl
awake-paused s pause.Early a = refl
awake-paused s pause.More a = refl
awake-paused (state.Looks dry) pause.Done a = a
awake-paused state.Rests pause.Done a = refl
awake-paused state.Called pause.Done a = refl
awake-paused state.Again pause.Done a = refl
awake-paused state.Full pause.Done a = refl
awake-paused state.Early pause.Done a = refl
awake-paused (state.Stirred dry) pause.Done a = refl

goes-on : (spent : Bool) (s : LookState) (f : Found) → is_awake s ≡ true → has_looked (is_dry s) f ≡ false → is_calm s ≡ false
    → is_awake (followed s f (cond spent decision.Again decision.GoesOn)) ≡ true
goes-on true s f a n c = refl
goes-on false s f a n c = rw (n, c) refl

-- one that was awake doesn't rest after an answer that ends no look
awake-followed : (s : LookState) (f : Found) (left : ℕ) (full : Bool) → is_awake s ≡ true → has_looked (is_dry s) f ≡ false
    → is_awake (followed s f (decision_for left (may_rest s f) full)) ≡ true
awake-followed state.Rests f left full a n = absurd (cc)
awake-followed (state.Looks dry) f left full a n = absurd (cc)
awake-followed s f left true a n = refl
awake-followed state.Called f left false a n = goes-on (nat_eq left 0) state.Called f a n refl
awake-followed state.Again f left false a n = goes-on (nat_eq left 0) state.Again f a n refl
awake-followed state.Full f left false a n = goes-on (nat_eq left 0) state.Full f a n refl
awake-followed state.Early f left false a n = goes-on (nat_eq left 0) state.Early f a n refl
awake-followed (state.Stirred dry) f left false a n = goes-on (nat_eq left 0) (state.Stirred dry) f a n refl

dry-called : (s : LookState) → is_dry (called s) ≡ true → is_dry s ≡ true
dry-called (state.Looks dry) d = d
dry-called (state.Stirred dry) d = d
dry-called state.Rests d = absurd (cc)
dry-called state.Called d = absurd (cc)
dry-called state.Again d = absurd (cc)
dry-called state.Full d = absurd (cc)
dry-called state.Early d = absurd (cc)

dry-put : (s : LookState) → is_dry (put_for s) ≡ true → is_dry s ≡ true
dry-put (state.Looks true) d = d
dry-put (state.Looks false) d = d
dry-put (state.Stirred dry) d = d
dry-put state.Rests d = absurd (cc)
dry-put state.Called d = absurd (cc)
dry-put state.Again d = absurd (cc)
dry-put state.Full d = absurd (cc)
dry-put state.Early d = absurd (cc)

not-dry-begun : (s : LookState) → is_dry (begun s) ≡ false
not-dry-begun state.Rests = refl
not-dry-begun state.Called = refl
not-dry-begun state.Again = refl
not-dry-begun state.Full = refl
not-dry-begun state.Early = refl
not-dry-begun (state.Looks dry) = refl
not-dry-begun (state.Stirred dry) = refl

not-dry-paused : (s : LookState) (p : Pause) → is_dry (paused s p) ≡ false
not-dry-paused s pause.Full = refl
not-dry-paused s pause.Early = refl
not-dry-paused s pause.More = refl
not-dry-paused s pause.Done = elim (is_calm s) as (λ b. is_dry (cond b state.Rests state.Called) ≡ false) [ true ↦ refl | false ↦ refl ]

goes-on-dry : (over calm dry : Bool) → is_dry (cond over (state.Looks false) (cond calm (state.Looks dry) (state.Stirred dry))) ≡ true → dry ≡ true
goes-on-dry true calm dry d = absurd (cc)
goes-on-dry false true dry d = d
goes-on-dry false false dry d = d

dry-followed : (s : LookState) (f : Found) (v : Decision) → is_dry (followed s f v) ≡ true → finds_dry f ≡ true
dry-followed s f decision.Rests d = absurd (cc)
dry-followed s f decision.Held d = absurd (cc)
dry-followed s f decision.Again d = absurd (cc)
dry-followed s f decision.GoesOn d = goes-on-dry (has_looked (is_dry s) f) (is_calm s) (finds_dry f) d

-- what is kept of a dry stream is so by the history
dry : (h : List Step) → is_dry (state_after h) ≡ true → was_dry h ≡ true
unfolding state_after was_dry
dry [] d = absurd (cc)
dry (Comes ∷ h) d = dry h (dry-called (state_after h) d)
dry (Puts ∷ h) d = dry h (dry-put (state_after h) d)
dry (Begins ∷ h) d = absurd (cc (not-dry-begun (state_after h)))
dry (Follows f left full ∷ h) d = dry-followed (state_after h) f (decision_for left (may_rest (state_after h) f) full) d
dry (Pauses p ∷ h) d = absurd (cc (not-dry-paused (state_after h) p))

-- a look that isn't over by the history isn't by the state
not-over : (kept was : Bool) (f : Found) → (kept ≡ true → was ≡ true) → has_looked was f ≡ false → has_looked kept f ≡ false
not-over kept was found.Idle k n = absurd (cc)
not-over kept was found.More k n = refl
not-over kept was found.Dry k n = refl
not-over false was found.Quiet k n = refl
not-over true was found.Quiet k n = absurd (cc (k refl))

came-still : (over came : Bool) → cond over false came ≡ true → (over ≡ false) × (came ≡ true)
came-still true came c = absurd (cc)
came-still false came c = (refl, c)

called-start : (s : LookState) → rests-or-called (called s) ≡ true → rests-or-called s ≡ true
unfolding rests-or-called
called-start state.Rests r = refl
called-start state.Called r = refl
called-start state.Again r = absurd (cc)
called-start state.Full r = absurd (cc)
called-start state.Early r = absurd (cc)
called-start (state.Looks dry) r = absurd (cc)
called-start (state.Stirred dry) r = absurd (cc)

put-start : (s : LookState) → rests-or-called (put_for s) ≡ true → rests-or-called s ≡ true
unfolding rests-or-called
put-start state.Rests r = refl
put-start state.Called r = refl
put-start state.Again r = absurd (cc)
put-start state.Full r = absurd (cc)
put-start state.Early r = absurd (cc)
put-start (state.Looks true) r = absurd (cc)
put-start (state.Looks false) r = absurd (cc)
put-start (state.Stirred dry) r = absurd (cc)

begun-looks : (s : LookState) → rests-or-called (begun s) ≡ false
unfolding rests-or-called
begun-looks state.Rests = refl
begun-looks state.Called = refl
begun-looks state.Again = refl
begun-looks state.Full = refl
begun-looks state.Early = refl
begun-looks (state.Looks dry) = refl
begun-looks (state.Stirred dry) = refl

going-on-under-way : (over calm dry : Bool) → rests-or-called (cond over (state.Looks false) (cond calm (state.Looks dry) (state.Stirred dry))) ≡ false
unfolding rests-or-called
going-on-under-way true calm dry = refl
going-on-under-way false true dry = refl
going-on-under-way false false dry = refl

followed-under-way : (s : LookState) (f : Found) (full spent : Bool)
    → rests-or-called (followed s f (cond full decision.Held (cond spent decision.Again decision.GoesOn))) ≡ false
unfolding rests-or-called
followed-under-way s f true spent = refl
followed-under-way s f false true = refl
followed-under-way s f false false = going-on-under-way (has_looked (is_dry s) f) (is_calm s) (finds_dry f)

-- one that rests after an answer has looked
rests-over : (calm over full spent : Bool) (s : LookState) (f : Found)
    → rests-or-called (followed s f (cond full decision.Held (cond (calm && over) decision.Rests (cond spent decision.Again decision.GoesOn)))) ≡ true → over ≡ true
rests-over calm true full spent s f r = refl
rests-over true false full spent s f r = absurd (cc (followed-under-way s f full spent))
rests-over false false full spent s f r = absurd (cc (followed-under-way s f full spent))

over-still : (kept was : Bool) (f : Found) → (kept ≡ true → was ≡ true) → has_looked kept f ≡ true → has_looked was f ≡ true
over-still kept was found.Idle k o = refl
over-still kept was found.More k o = absurd (cc)
over-still kept was found.Dry k o = absurd (cc)
over-still kept was found.Quiet k o = k o

cut-full : rests-or-called state.Full ≡ true → ⊥
unfolding rests-or-called
cut-full r = cc

cut-early : rests-or-called state.Early ≡ true → ⊥
unfolding rests-or-called
cut-early r = cc

-- no look is under way of one that rests or is called
start : (h : List Step) → rests-or-called (state_after h) ≡ true → is_under_way h ≡ false
unfolding state_after is_under_way
start [] r = refl
start (Comes ∷ h) r = start h (called-start (state_after h) r)
start (Puts ∷ h) r = start h (put-start (state_after h) r)
start (Begins ∷ h) r = absurd (cc (begun-looks (state_after h)))
start (Follows f left full ∷ h) r =
    let over : has_looked (is_dry (state_after h)) f ≡ true =
    rests-over (is_calm (state_after h)) (has_looked (is_dry (state_after h)) f) full (nat_eq left 0) (state_after h) f r in
    let was : has_looked (was_dry h) f ≡ true = over-still (is_dry (state_after h)) (was_dry h) f (dry h) over in
    rw was refl
start (Pauses pause.Done ∷ h) r = refl
start (Pauses pause.More ∷ h) r = refl
start (Pauses pause.Full ∷ h) r = absurd (cut-full r)
start (Pauses pause.Early ∷ h) r = absurd (cut-early r)

both : (a b : Bool) → a && b ≡ true → (a ≡ true) × (b ≡ true)
both true b h = (refl, h)
both false b h = absurd (cc)

not-start : (r u : Bool) → (r ≡ true → u ≡ false) → u ≡ true → r ≡ false
not-start true u none way = absurd (cc (none refl))
not-start false u none way = refl

-- where something came since the last look began, the connection is awake
pub awake : (h : List Step) → came_since_look h ≡ true → is_awake (state_after h) ≡ true
unfolding state_after came_since_look
awake [] c = absurd (cc)
awake (Comes ∷ h) c = awake-called (state_after h)
awake (Puts ∷ h) c = awake-put (state_after h) (came_since_look h) (awake h) c
awake (Begins ∷ h) c =
    let parts : (is_under_way h ≡ true) × (came_since_look h ≡ true) = both (is_under_way h) (came_since_look h) c in
    awake-begun (state_after h) (awake h parts.1)
    (not-start (rests-or-called (state_after h)) (is_under_way h) (start h) parts.0)
awake (Follows f left full ∷ h) c =
    let still : (has_looked (was_dry h) f ≡ false) × (came_since_look h ≡ true) = came-still (has_looked (was_dry h) f) (came_since_look h) c in
    awake-followed (state_after h) f left full (awake h still.1)
    (not-over (is_dry (state_after h)) (was_dry h) f (dry h) still.0)
awake (Pauses p ∷ h) c = awake-paused (state_after h) p (awake h c)

awake-not-calm : (s : LookState) → is_awake s ≡ true → is_calm s ≡ false
awake-not-calm state.Rests a = refl
awake-not-calm state.Called a = refl
awake-not-calm state.Again a = refl
awake-not-calm state.Full a = refl
awake-not-calm state.Early a = refl
awake-not-calm (state.Looks dry) a = absurd (cc)
awake-not-calm (state.Stirred dry) a = refl

-- one that looks, and for which nothing came, may rest
pub never_calm : (s : LookState) → is_calm s ≡ true → NeverRests s state.Rests
never_calm s calm h is came rests =
    let s-awake : is_awake s ≡ true = subst (λ s. is_awake s ≡ true) is (awake h came) in
    absurd (cc (awake-not-calm s s-awake))

rests-calm : (left : ℕ) (calm over full : Bool) → decision_for left (calm && over) full ≡ decision.Rests → calm ≡ true
rests-calm left true over full r = refl
rests-calm left false over true r = absurd (cc)
rests-calm left false over false r = elim (nat_eq left 0) as (λ b. cond b decision.Again decision.GoesOn ≡ decision.Rests → false ≡ true) [ true ↦ λ e. absurd (cc) | false ↦ λ e. absurd (cc) ] r

-- so may one of which the decision says so
pub never_rested : (s : LookState) (f : Found) (left : ℕ) (full : Bool) → decision_for left (may_rest s f) full ≡ decision.Rests
    → NeverRests s state.Rests
never_rested s f left full r = never_calm s (rests-calm left (is_calm s) (has_looked (is_dry s) f) full r)
