-- From the cursor behind the header, and from what its body came to, to the reading of the frame.
use mathlib.Core.Path.{◌≡◌, refl, sym, ap, ◌∙◌}
use mathlib.Core.Bool.{true, false, not}
use mathlib.Core.List.{List, [], ◌∷◌, ◌++◌}
use Prim.Native.Nat.{ℕ, zero, suc, ◌*◌, ◌/◌, ◌<◌}
use native.Mathlib.Omega.{arith}
use lib.ListN.{length}
use lib.Dec.{eqb}
use borrow.Author.Tests.{eq-eqb, ne_eqb}
use Rattle.x691.specs.Bits.{bit_of}
use Rattle.x691.specs.Encoding.{width, width_in, highest, count}
use Rattle.atn.specs.Format.{Alts, out, bad, choice, marked, ◌∥◌, none_left}
use Rattle.atn.specs.Reading.{Rec, rec, Ans, ok, past, stop, glue, then, fork, or, mark, softly, pass_over, kept, read, read_choice}
use Rattle.atn.specs.Entries.{accept, ran_out, stopped, reply, read_frame}
use Rattle.atn.specs.Messages.{acse, release, abort, extended}
use Rattle.atn.specs.Tags as tag
use Rattle.atn.proofs.Marks.{or_nil}
use Rattle.atn.proofs.Steps.{glue-nil}
use Rattle.atn.proofs.Then.{glue-glue}
use Rattle.cursor.specs.declared.place.Cursor.{Cursor}
use Rattle.cursor.specs.declared.place.Got.{Got}
use Rattle.cursor.specs.Place as place
use Rattle.cursor.specs.Place.{Inside, Pulls}
use Rattle.cursor.proofs.Laws.{Behind}
use Rattle.acse_bodies.specs.declared.Body.{Body}
use Rattle.acse_apdus.specs.declared.Apdu.TheVariants.{RanOut, Badly}
use Rattle.acse_reasons.specs.SoFar.{so_far}
use Rattle.acse_bodies.specs.Bodies.{bodies, body_recs, Chosen, unread_body}
use Rattle.acse_apdus.specs.Apdus.{heard_of, reply_of, Hears}
use Rattle.acse_reasons.proofs.GrowLaws.{by_why, so_far_on, so_far_off, so_far_same, pulled_step, pulled_inside}

---------------------------------------------------------------- what becomes of a body

-- one that ran out is accepted, with its records so far
soft_reply : (a : Ans) (Q S : List Rec) (m : ℕ) (d : Cursor) → glue Q m a ≡ so_far d S → reply (glue Q m (softly 7 true a)) ≡ accept (not (eqb d.why 0)) d.at d.marks S
unfolding glue softly pass_over kept reply
soft_reply (ok p R n) Q S m d h = by_why d
    (λ z. let e = h ∙ so_far_on d S z in rw (eq-eqb d.why 0 z) (cc))
    (λ z. let e = h ∙ so_far_off d S z in absurd (let y : ◌≡◌ {A = ℕ} 0 1 = cc in omega arith))
soft_reply (past lacked p R n) Q S m d h = by_why d
    (λ z. let e = h ∙ so_far_on d S z in absurd (let y : ◌≡◌ {A = ℕ} 0 1 = cc in omega arith))
    (λ z. let e = h ∙ so_far_off d S z in absurd (let y : ◌≡◌ {A = ℕ} 0 1 = cc in omega arith))
soft_reply (stop w p R n) Q S m d h = by_why d
    (λ z. let e = h ∙ so_far_on d S z in absurd (let y : ◌≡◌ {A = ℕ} 0 1 = cc in omega arith))
    (λ z. let e = h ∙ so_far_off d S z in let y : w ≡ out (d.why / 16) = cc in rw (ne_eqb d.why 0 z, y) (cc))

abbrev pdus : Alts
pdus = marked 3 ∥ marked 3 ∥ release tag.release_request_reason ∥ release tag.release_response_reason ∥ abort ∥ none_left

-- a message is its body, of which the frame's end may cut a part
pdu_body : (i : ℕ) (b : ℕ → ℕ) (e p : ℕ) → i < 5 → read_choice pdus i (0, 0) b e p ≡ softly 7 true (read_choice bodies i (0, 0) b e p)
unfolding read_choice read softly
pdu_body zero b e p h = refl
pdu_body (suc zero) b e p h = refl
pdu_body (suc (suc zero)) b e p h = refl
pdu_body (suc (suc (suc zero))) b e p h = refl
pdu_body (suc (suc (suc (suc zero)))) b e p h = refl
pdu_body (suc (suc (suc (suc (suc i))))) b e p h = absurd (omega arith)

no_pdu : (i : ℕ) (b : ℕ → ℕ) (e p : ℕ) → 4 < i → read_choice pdus i (0, 0) b e p ≡ stop bad p [] (mark 1)
unfolding read_choice
no_pdu zero b e p h = absurd (omega arith)
no_pdu (suc zero) b e p h = absurd (omega arith)
no_pdu (suc (suc zero)) b e p h = absurd (omega arith)
no_pdu (suc (suc (suc zero))) b e p h = absurd (omega arith)
no_pdu (suc (suc (suc (suc zero)))) b e p h = absurd (omega arith)
no_pdu (suc (suc (suc (suc (suc i))))) b e p h = refl

---------------------------------------------------------------- the header

abbrev start : List ℕ → Cursor
start s = record { at = 0; end = length s * 8; why = 0; marks = 0 }

-- behind the index, which starts at the place o
abbrev Index : List ℕ → ℕ → ℕ → ℕ → ℕ → Ans
Index s o i u q = then (ok q (rec tag.acse_pdu 0 i 0 o ∷ []) 0) λ r. read_choice pdus i (0, 0) (bit_of s) u r

abbrev Header : List ℕ → ℕ → ℕ → ℕ → Ans
Header s v u q = fork v (read (choice tag.acse_pdu pdus) (0, 0) (bit_of s) u q) (then (ok q [] (mark 2)) λ r. read (extended tag.acse_pdu) (0, 0) (bit_of s) u r)

-- a reading that has stopped, and one that goes on
stopped-reply : (c : Cursor) (k : ℕ → Ans) → (c.why ≡ 0 → ⊥) → reply (then (so_far c []) k) ≡ ran_out c.at (c.why / 16)
unfolding then reply stopped
stopped-reply c k n = rw (so_far_off c [] n)

going : (c : Cursor) (k : ℕ → Ans) → c.why ≡ 0 → then (so_far c []) k ≡ glue [] c.marks (k c.at)
unfolding then
going c k z = rw (so_far_on c [] z)

extension-reply : (s : List ℕ) (v u q m : ℕ) → (v ≡ 0 → ⊥) → reply (glue [] m (Header s v u q)) ≡ accept false q (or m 2) (rec tag.acse_pdu 0 0 1 q ∷ [])
unfolding reply glue then fork read mark or
extension-reply s zero u q m n = absurd (n refl)
extension-reply s (suc v) u q m n = refl

body_reply : (s : List ℕ) (c : Cursor) (o i : ℕ) (r : Body) → i < 5 → c.why ≡ 0 → Inside s c → Chosen s c i r → reply (then (so_far c []) (λ p. Index s o i c.end p)) ≡ reply_of (heard_of i 0 o r)
unfolding then
body_reply s c o i r l z y t =
    let Q : List Rec = rec tag.acse_pdu 0 i 0 o ∷ [] in
    let a : Ans = read_choice bodies i (0, 0) (bit_of s) c.end c.at in
    let h : glue Q c.marks a ≡ so_far r.c (Q ++ body_recs r) = rw (so_far_on c Q z) at ((t.grows.grew y).gives Q) in
    rw (going c (λ p. Index s o i c.end p) z, pdu_body i (bit_of s) c.end c.at l, ← (glue-glue [] Q c.marks 0 (softly 7 true a)), or_nil c.marks)
    (soft_reply a Q (Q ++ body_recs r) c.marks r.c h)

module _ {s : List ℕ} {g : Got ℕ} (x : Pulls s (start s) 1 g) where
  begins : Inside s (start s)
  begins = (omega arith, omega arith)

  behind-extension : read_frame acse s ≡ reply (then (so_far g.c []) (λ p. Header s g.v g.c.end p))
  unfolding read_frame read
  behind-extension =
      let k : ℕ → Ans = λ p. read acse (0, 0) (bit_of s) (length s * 8) p in
      ap reply (sym (going (start s) k refl ∙ glue-nil (k 0)) ∙ pulled_step 1 g (Header s) [] (x.gave begins))

  pub hears_short : (g.c.why ≡ 0 → ⊥) → Hears s (RanOut g.c.at (g.c.why / 16))
  hears_short n = record { is = behind-extension ∙ stopped-reply g.c _ n }

  module _ (z : g.c.why ≡ 0) where
    pub hears_extended : (g.v ≡ 0 → ⊥) → Hears s (heard_of 0 1 g.c.at (unread_body g.c 2))
    unfolding place.marked place.stopped
    hears_extended n =
        record { is = behind-extension ∙ rw (going g.c (λ p. Header s g.v g.c.end p) z, eq-eqb g.c.why 0 z) (extension-reply s g.v g.c.end g.c.at g.c.marks n) }

    module _ (o : g.v ≡ 0) {h : Got ℕ} (y : Pulls s g.c 3 h) where
      inside : Inside s g.c
      inside = (pulled_inside 1 g (Header s) begins (x.gave begins)).0

      behind-index : read_frame acse s ≡ reply (then (so_far h.c []) (λ p. Index s g.c.at h.v h.c.end p))
      unfolding fork read width width_in highest count
      behind-index =
          let k : ℕ → Ans = λ p. read (choice tag.acse_pdu pdus) (0, 0) (bit_of s) g.c.end p in
          behind-extension ∙ rw o (ap reply (so_far_same g.c [] k (λ p. Behind s 3 (Index s g.c.at) g.c.end p) (λ z. refl) ∙ pulled_step 3 h (Index s g.c.at) [] (y.gave inside)))

      pub hears_no_index : (h.c.why ≡ 0 → ⊥) → Hears s (RanOut h.c.at (h.c.why / 16))
      hears_no_index n = record { is = behind-index ∙ stopped-reply h.c _ n }

      module _ (w : h.c.why ≡ 0) where
        pub hears_unlisted : 4 < h.v → Hears s (Badly h.c.at)
        unfolding then glue reply stopped
        hears_unlisted l = record { is = behind-index ∙ rw (going h.c _ w, no_pdu h.v (bit_of s) h.c.end h.c.at l) }

        pub hears_body : {r : Body} → h.v < 5 → Chosen s h.c h.v r → Hears s (heard_of h.v 0 g.c.at r)
        hears_body {r} l t = record { is = behind-index ∙ body_reply s h.c g.c.at h.v r l w (pulled_inside 3 h (Index s g.c.at) inside (y.gave inside)).0 t }
