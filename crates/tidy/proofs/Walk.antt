-- Option (Record × ℕ) along tidy bytes: the events come back that they were written for, and reading ends where the bytes end. Assumes nothing.
use Prim.Native.Nat.{ℕ, zero, suc, ◌+◌, ◌*◌, ◌-◌, ◌≤◌}
use native.Mathlib.Omega.{arith}
use mathlib.Core.Path.{◌≡◌, ◌∙◌, refl, sym, ap, subst}
use mathlib.Core.Bool.{Bool, true, false, cond, not, ◌&&◌}
use mathlib.Core.List.{List, [], ◌∷◌, ◌++◌, append_assoc}
use borrow.Author.Tests.{ne_eqb}
use lib.Dec.{eqb}
use lib.ListN.{length, drop, length-drop, length-append}
use lib.Seq.{drop-drop, drop-append_seam}
use Rattle.std.specs.Prelude.{Some}
use Rattle.record.specs.Record.{reading_of}
use Rattle.record.specs.declared.Record.{Record}
use Rattle.trace.specs.Trace.{end_from}
use Rattle.trace.proofs.Entries.{past_end, entries_none, remaining, remaining_found}
use Rattle.tidy.specs.Meaning.{Event, only_waits, events_in}
use Rattle.tidy.specs.Tidy.{longest_wait, full_waits, own_wait, wait_bytes, full_wait_bytes, record_bytes, tidy_from}
use Rattle.tidy.specs.Passage.{event_at}
use Rattle.tidy.proofs.Gaps.{cut, own_fits}
use Rattle.tidy.proofs.ReadBack.{SoundEvent, Rising, record_for, full_wait, read_back, wait_back}

-- a record with a port or a reset does not only wait
not_idle : (p : ℕ) (b : Bool) → (p + cond b 128 0 ≡ 0 → ⊥) → eqb p 0 && not b ≡ false
not_idle p true h = and-false (eqb p 0)
  where
    and-false : (x : Bool) → x && false ≡ false
    and-false true = refl
    and-false false = refl
not_idle p false h = rw (ne_eqb p 0 (λ z. h (omega arith)))

module _ (t : List ℕ) where
  -- the events that are read from a place on, and where reading ends
  pub record Walked (at last : ℕ) (es : List Event) : Type 0 where
    pub events : events_in (remaining t at last) ≡ es
    pub ends : end_from at (remaining t at last) ≡ length t

  -- a place with what is left there
  record Left (at : ℕ) (rest : List ℕ) : Type 0 where
    inside : at ≤ length t
    bytes : drop at t ≡ rest

  past : (at : ℕ) (x rest : List ℕ) → Left at (x ++ rest) → Left (at + length x) rest
  past at x rest l =
      record {
        inside = omega (arith, l.inside, ap length l.bytes, length-drop at t, length-append x rest);
        bytes = sym (drop-drop (length x) at t) ∙ ap (drop (length x)) l.bytes ∙ drop-append_seam x rest;
      }

  over : (at last : ℕ) → Left at [] → Walked at last []
  unfolding events_in end_from
  over at last l =
      let e : length t ≤ at = omega (arith, l.inside, ap length l.bytes, length-drop at t) in
      let none = entries_none (length t - at) t at last (sym (past_end t at e)) in
      record { events = ap events_in none; ends = ap (end_from at) none ∙ (let z : at ≡ length t = omega (arith, l.inside) in z) }

  module _ (at last : ℕ) (r : Record) (n : ℕ) (e : reading_of (drop at t) ≡ Some (r, n)) where
    abbrev later : List Event
    later = events_in (remaining t (at + n) (last + r.wait))

    ends_later : (es : List Event) → Walked (at + n) (last + r.wait) es → end_from at (remaining t at last) ≡ length t
    unfolding end_from
    ends_later es w = ap (end_from at) (remaining_found t at last r n e) ∙ w.ends

    events_later : events_in (remaining t at last) ≡ cond (only_waits r) later (event_at (last + r.wait) r ∷ later)
    unfolding events_in
    events_later = ap events_in (remaining_found t at last r n e)

    skipped : (es : List Event) → only_waits r ≡ true → Walked (at + n) (last + r.wait) es → Walked at last es
    skipped es o w =
        record {
          events = events_later ∙ ap (λ (b : Bool). cond b later (event_at (last + r.wait) r ∷ later)) o ∙ w.events;
          ends = ends_later es w;
        }

    kept : (es : List Event) → only_waits r ≡ false → Walked (at + n) (last + r.wait) es → Walked at last (event_at (last + r.wait) r ∷ es)
    kept es o w =
        record {
          events =
              events_later ∙ ap (λ (b : Bool). cond b later (event_at (last + r.wait) r ∷ later)) o ∙
              ap (λ (l : List Event). event_at (last + r.wait) r ∷ l) w.events;
          ends = ends_later es w;
        }

  -- past the full waits of a gap
  past_waits : (n at last : ℕ) (rest : List ℕ) (es : List Event) → Left at (full_wait_bytes n ++ rest) →
      ((on : ℕ) → Left on rest → Walked on (last + longest_wait * n) es) → Walked at last es
  past_waits zero at last rest es l then =
      subst (λ (d : ℕ). Walked at d es) (let z : last + longest_wait * 0 ≡ last = omega arith in z) (then at l)
  past_waits (suc n) at last rest es l then =
      let full : List ℕ = 0 ∷ wait_bytes longest_wait in
      let m : Left at (full ++ (full_wait_bytes n ++ rest)) = record { inside = l.inside; bytes = l.bytes ∙ append_assoc full (full_wait_bytes n) rest } in
      skipped at last full_wait 4 (ap reading_of m.bytes ∙ wait_back (full_wait_bytes n ++ rest)) es refl
      (past_waits n (at + 4) (last + longest_wait) rest es (past at full (full_wait_bytes n ++ rest) m)
      (λ on k. subst (λ (d : ℕ). Walked on d es) (let z : last + longest_wait * suc n ≡ last + longest_wait + longest_wait * n = omega arith in z) (then on k)))

  -- an event's own record
  past_record : (at last w : ℕ) (e : Event) (es : List Event) (rest : List ℕ) → SoundEvent e → w ≤ 65535 → last + w ≡ e.due → Left at (record_bytes w e ++ rest) →
      ((on : ℕ) → Left on rest → Walked on e.due es) → Walked at last (e ∷ es)
  past_record at last w e es rest v h d l then =
      let r = record_for w e in
      let n = length (record_bytes w e) in
      subst (λ (due : ℕ). Walked at last (event_at due r ∷ es)) d
      (kept at last r n (ap reading_of l.bytes ∙ read_back e v.writable w rest h (λ z k. v.some z)) es (not_idle e.ports e.reset v.some)
      (subst (λ (due : ℕ). Walked (at + n) due es) (sym d) (then (at + n) (past at (record_bytes w e) rest l))))

  walked : (es : List Event) (at last : ℕ) → Rising last es → Left at (tidy_from last es) → Walked at last es
  unfolding tidy_from
  walked [] at last h l = over at last l
  walked (e ∷ es) at last (v, h, later) l =
      let g = e.due - last in
      let full = full_wait_bytes (full_waits g) in
      let own = record_bytes (own_wait g) e in
      let rest = tidy_from e.due es in
      past_waits (full_waits g) at last (own ++ rest) (e ∷ es) (record { inside = l.inside; bytes = l.bytes ∙ append_assoc full own rest })
      (λ on k.
      past_record on (last + longest_wait * full_waits g) (own_wait g) e es rest v (own_fits g) (omega (arith, cut g)) k
      (λ off m. walked es off e.due later m))

-- the whole of it
pub walked_tidy : (es : List Event) → Rising 0 es → Walked (tidy_from 0 es) 0 0 es
walked_tidy es h = walked (tidy_from 0 es) es 0 0 h (record { inside = omega arith; bytes = refl })
