-- Which formats can be told back: a test of the format alone, by the tags that the first record of a part may have.
use Rattle.std.specs.Prelude.{Bool, true, false, cond, not, ◌&&◌, ◌||◌, List, [], ◌∷◌, ◌++◌, ℕ, ◌+◌, leb}
use Rattle.x691.specs.Range.{member}
use Rattle.atn.specs.Format.{Fmt, num, listed, name, text, span, any_span, skipped, small, null, noted, placed, marked, refuse, element, ext, seq, loose, choice, many, inner, soft, lax}
use Rattle.atn.specs.Format.{Flds, end, ◌⨾◌, ◌⨾?◌, or_note, unread, Alts, none_left, ◌∥◌, Letters, first, numeric}

-- no tag of the first list is in the second
unfoldable pub apart : List ℕ → List ℕ → Bool
apart [] us = true
apart (t ∷ ts) us = not (member t us) && apart ts us

-- whether each of its values shows something
unfoldable mutual
  pub solid : Fmt → Bool
  solid (num t lo hi) = true
  solid (listed t hi xs) = true
  solid (name t hi) = true
  solid (text t n c lo hi) = leb 1 lo
  solid (span t w lo hi) = leb 1 lo && leb 1 w
  solid (any_span t w) = false
  solid (skipped m) = true
  solid (small m t) = true
  solid null = false
  solid (noted t y s f) = true
  solid (placed t f) = true
  solid (marked m) = true
  solid (refuse w m) = true
  solid (element f) = solid f
  solid (ext f g) = solid f
  solid (seq fs) = solid_fields fs
  solid (loose fs) = solid_fields fs
  solid (choice t fs) = true
  solid (many lo hi f) = leb 1 lo && solid f
  solid (inner f) = solid f
  solid (soft m r f) = solid f
  solid (lax m j f) = solid f

  pub solid_fields : Flds → Bool
  solid_fields end = false
  solid_fields (f ⨾ fs) = solid f || solid_fields fs
  solid_fields (f ⨾? fs) = solid_fields fs
  solid_fields (or_note t y s f fs) = solid f || solid_fields fs
  solid_fields (unread t fs) = solid_fields fs

-- the tags that its first item may have
unfoldable mutual
  pub firsts : Fmt → List ℕ
  firsts (num t lo hi) = t ∷ []
  firsts (listed t hi xs) = t ∷ []
  firsts (name t hi) = t ∷ []
  firsts (text t n c lo hi) = t ∷ []
  firsts (span t w lo hi) = t ∷ []
  firsts (any_span t w) = t ∷ []
  firsts (skipped m) = []
  firsts (small m t) = []
  firsts null = []
  firsts (noted t y s f) = t ∷ []
  firsts (placed t f) = t ∷ []
  firsts (marked m) = []
  firsts (refuse w m) = []
  firsts (element f) = firsts f
  firsts (ext f g) = firsts f
  firsts (seq fs) = firsts_fields fs
  firsts (loose fs) = firsts_fields fs
  firsts (choice t fs) = t ∷ []
  firsts (many lo hi f) = firsts f
  firsts (inner f) = firsts f
  firsts (soft m r f) = firsts f
  firsts (lax m j f) = firsts f

  pub firsts_fields : Flds → List ℕ
  firsts_fields end = []
  firsts_fields (f ⨾ fs) = firsts f ++ cond (solid f) [] (firsts_fields fs)
  firsts_fields (f ⨾? fs) = firsts f ++ firsts_fields fs
  firsts_fields (or_note t y s f fs) = (t ∷ firsts f) ++ cond (solid f) [] (firsts_fields fs)
  firsts_fields (unread t fs) = firsts_fields fs

-- whether the second number of its first item is 0, whatever the value
unfoldable pub single : Fmt → Bool
single (num t lo hi) = true
single (listed t hi xs) = true
single (name t hi) = true
single (text t n c lo hi) = false
single (span t w lo hi) = false
single (any_span t w) = false
single (skipped m) = true
single (small m t) = true
single null = false
single (noted t y s f) = leb s 0
single (placed t f) = true
single (marked m) = true
single (refuse w m) = true
single (element f) = single f
single (ext f g) = single f
single (seq fs) = false
single (loose fs) = false
single (choice t fs) = true
single (many lo hi f) = false
single (inner f) = single f
single (soft m r f) = single f
single (lax m j f) = single f

-- whether no value shows a record of tag t and second number s first
unfoldable pub unlike : ℕ → ℕ → Fmt → Bool
unlike t s f = not (member t (firsts f)) || (leb 1 s && single f)

-- the tags that may come next where parts with the first tags F stand, and then G: G only if they may show nothing
unfoldable pub ahead : List ℕ → Bool → List ℕ → List ℕ
ahead F s G = F ++ cond s [] G

-- each of n units has a character, and both texts are texts
abbrev pub clear_letters : (ℕ → Bool) → ℕ → Letters → Bool
clear_letters sp n (first c) = leb (c + n) 256
clear_letters sp n (numeric v) = not (sp v) && leb n 11

-- The test, with the tags G behind the part: a list shows one value at most, spans and nothing else have the tags of spans,
-- numbers are those of a word, and characters those of an octet.
unfoldable mutual
  pub clear : (ℕ → Bool) → Fmt → List ℕ → Bool
  clear sp (num t lo hi) G = not (sp t) && leb lo 18446744073709551616
  clear sp (listed t hi xs) G = not (sp t)
  clear sp (name t hi) G = not (sp t)
  clear sp (text t n c lo hi) G = not (sp t) && (leb 1 lo && clear_letters sp n c)
  clear sp (span t w lo hi) G = sp t && (leb 1 lo && leb 1 w)
  clear sp (any_span t w) G = sp t && (leb 1 w && not (member t G))
  clear sp (skipped m) G = true
  clear sp (small m t) G = true
  clear sp null G = true
  clear sp (noted t y s f) G = not (sp t) && clear sp f G
  clear sp (placed t f) G = not (sp t) && clear sp f G
  clear sp (marked m) G = true
  clear sp (refuse w m) G = true
  clear sp (element f) G = clear sp f G
  clear sp (ext f g) G = clear sp f G
  clear sp (seq fs) G = clear_fields sp fs G
  clear sp (loose fs) G = clear_fields sp fs G
  clear sp (choice t fs) G = not (sp t) && clear_alts sp fs G
  clear sp (many lo hi f) G = solid f && (apart (firsts f) G && clear sp f (firsts f ++ G))
  clear sp (inner f) G = clear sp f G
  clear sp (soft m r f) G = clear sp f G
  clear sp (lax m j f) G = clear sp f G

  pub clear_fields : (ℕ → Bool) → Flds → List ℕ → Bool
  clear_fields sp end G = true
  clear_fields sp (f ⨾ fs) G = clear sp f (ahead (firsts_fields fs) (solid_fields fs) G) && clear_fields sp fs G
  clear_fields sp (f ⨾? fs) G = (apart (firsts f) (ahead (firsts_fields fs) (solid_fields fs) G) && clear sp f (ahead (firsts_fields fs) (solid_fields fs) G)) && clear_fields sp fs G
  clear_fields sp (or_note t y s f fs) G = ((not (sp t) && solid f) && clear sp f (ahead (firsts_fields fs) (solid_fields fs) G)) && clear_fields sp fs G
  clear_fields sp (unread t fs) G = clear_fields sp fs G

  pub clear_alts : (ℕ → Bool) → Alts → List ℕ → Bool
  clear_alts sp none_left G = true
  clear_alts sp (f ∥ fs) G = clear sp f G && clear_alts sp fs G
