-- How long connections may take.
use Rattle.std.specs.Prelude.{◌||◌, ℕ, Bool, nat_lt}
use Rattle.loop_rules.specs.Link as link
use Rattle.loop_rules.specs.Links.{is_pressed, is_taker_at, link_at}
use Rattle.loop_rules.specs.declared.link.Do.{Do}
use Rattle.loop_rules.specs.declared.link.Do.TheVariants as what
use Rattle.loop_rules.specs.declared.link.Link.{Link}
use Rattle.loop_rules.specs.declared.link.Seen.{Seen}
use Rattle.loop_rules.specs.declared.links.Links.{Links}

-- it isn't read now, since its client waits
abbrev pub has_to_wait : (key now : ℕ) → Links → Bool
has_to_wait key now l =
    let one : Link = link_at l.links.items key in
    is_pressed (link.sender_of key one) now l.pressure || nat_lt now one.paced

abbrev pub waited : (key now : ℕ) → Links → Link
waited key now l = link.waited_so (has_to_wait key now l) now (link_at l.links.items key)

abbrev pub overdue_at : (key : ℕ) → Seen → (cutting : Bool) → (now : ℕ) → Links → Do
overdue_at key seen cutting now l =
    let one : Link = waited key now l in
    link.overdue_of (link.period_of seen.idle (is_taker_at key l) cutting one) seen.unsent cutting now one

abbrev pub do_by : Do → Do
do_by what.End = what.End
do_by what.GiveUp = what.GiveUp
do_by what.Cut = what.Cut
do_by what.Fail = what.Cut
do_by _ = what.Nothing

abbrev pub due_at : (key : ℕ) → Seen → (cutting : Bool) → (now : ℕ) → Links → Do
due_at key seen cutting now l = do_by (overdue_at key seen cutting now l)

abbrev pub kept_link : (key : ℕ) → Seen → (cutting : Bool) → (now : ℕ) → Links → Link
kept_link key seen cutting now l = link.failed_by (overdue_at key seen cutting now l) now (waited key now l)
