-- Every message is clear, whatever tables are lent: a list shows one of its plain values at most.
use mathlib.Core.Path.{◌≡◌, refl}
use mathlib.Core.Bool.{Bool, true}
use mathlib.Core.Option.{none, some}
use mathlib.Core.List.{List, [], ◌∷◌}
use Prim.Native.Nat.{ℕ, zero, suc}
use native.Mathlib.Omega.{arith}
use Rattle.x691.specs.Range.{member}
use Rattle.atn.specs.Format.{Fmt}
use Rattle.atn.specs.Messages.{no_reader, arguments, argument_of, elements, aircraft_pdus, ground_pdus, acse}
use Rattle.atn.specs.Tags as tag
use Rattle.atn.specs.Entries.{pdus, cm_of}
use Rattle.atn.proofs.Elements.{every, every_get}
use Rattle.record_lists.specs.Clear.{clear, clear_alts, solid, firsts, apart, ahead}
use Rattle.record_lists.specs.Kinds.{span_tag, kind_of}

pub nothing : {A B : Type 0} {x : B} → none ≡ some x → A
nothing h = let z : ◌≡◌ {A = ℕ} 0 1 = cc in absurd (omega arith)

clear-argument : (sp : ℕ → Bool) (G : List ℕ) (k : ℕ) → every (λ f. clear sp f G) arguments ≡ true → clear sp (argument_of k) G ≡ true
unfolding argument_of clear
clear-argument sp G zero h = refl
clear-argument sp G (suc k) h = every_get (λ f. clear sp f G) arguments no_reader k h refl

clear-elements : (sp : ℕ → Bool) (G table : List ℕ) → every (λ f. clear sp f G) arguments ≡ true → clear_alts sp (elements table) G ≡ true
unfolding elements clear
clear-elements sp G [] h = refl
clear-elements sp G (k ∷ table) h = rw (clear-argument sp G k h) (clear-elements sp G table h)

-- what the elements of a message may have behind them: another, a clearance, and the integrity check
protected-arguments : every (λ f. clear span_tag f (tag.element_index ∷ tag.clearance ∷ tag.integrity_check ∷ [])) arguments ≡ true
unfolding every clear solid firsts apart ahead span_tag member
protected-arguments = refl

carried-arguments : every (λ f. clear span_tag f (tag.element_index ∷ tag.clearance ∷ [])) arguments ≡ true
unfolding every clear solid firsts apart ahead span_tag member
carried-arguments = refl

clear_aircraft : (down : List ℕ) → clear span_tag (aircraft_pdus down) [] ≡ true
unfolding clear solid firsts apart ahead span_tag member
clear_aircraft down = rw (clear-elements span_tag (tag.element_index ∷ tag.clearance ∷ tag.integrity_check ∷ []) down protected-arguments)

clear_ground : (down up : List ℕ) → clear span_tag (ground_pdus down up) [] ≡ true
unfolding clear solid firsts apart ahead span_tag member
clear_ground down up =
    rw (
      clear-elements span_tag (tag.element_index ∷ tag.clearance ∷ tag.integrity_check ∷ []) up protected-arguments,
      clear-elements span_tag (tag.element_index ∷ tag.clearance ∷ []) up carried-arguments,
      clear-elements span_tag (tag.element_index ∷ tag.clearance ∷ []) down carried-arguments,
    )

clear-cm : (d : ℕ) → clear span_tag (cm_of d) [] ≡ true
unfolding cm_of clear solid firsts apart ahead span_tag member
clear-cm zero = refl
clear-cm (suc d) = refl

clear-pdus : (d : ℕ) (down up : List ℕ) → clear span_tag (pdus d down up) [] ≡ true
unfolding pdus
clear-pdus zero down up = clear_aircraft down
clear-pdus (suc d) down up = clear_ground down up

clear-acse : clear span_tag acse [] ≡ true
unfolding clear solid firsts apart ahead span_tag member
clear-acse = refl

pub some_is : {A : Type 0} {x y : A} → some x ≡ some y → x ≡ y
some_is h = cc

pub clear_kind : (k d : ℕ) (down up : List ℕ) {f : Fmt} → kind_of k d down up ≡ some f → clear span_tag f [] ≡ true
unfolding kind_of
clear_kind zero d down up h = rw (← some_is h) (clear-pdus d down up)
clear_kind (suc zero) d down up h = rw (← some_is h) (clear-cm d)
clear_kind (suc (suc zero)) d down up h = rw (← some_is h) clear-acse
clear_kind (suc (suc (suc k))) d down up h = nothing h
