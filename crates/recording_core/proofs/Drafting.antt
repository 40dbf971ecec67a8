-- Values that are read as events, one after another.
use Rattle.std.proofs.Common.{◌≡◌, List, [], ◌∷◌, ◌++◌, Bool, true, false, Some, None, refl}
use Rattle.serde_json.specs.Data.{Data}
use Rattle.bench_core.specs.Machine.{Event}
use Rattle.event_core.specs.Decoding.{event_at}
use Rattle.recording_core.specs.Drafts.{AreRead}

pub one_more : (ds : List Data) (es : List Event) (d : Data) (e : Event) → AreRead ds es false → event_at d ≡ Some e →
    AreRead (ds ++ d ∷ []) (es ++ e ∷ []) false
one_more [] [] d e h is = (is, refl)
one_more [] (f ∷ es) d e h is = absurd h
one_more (b ∷ ds) [] d e h is = absurd (let x = h.0 in cc)
one_more (b ∷ ds) (f ∷ es) d e h is = (h.0, one_more ds es d e h.1 is)

pub cut_here : (ds : List Data) (es : List Event) (d : Data) → AreRead ds es false → event_at d ≡ None → AreRead (ds ++ d ∷ []) es true
cut_here [] [] d h is = (refl, is)
cut_here [] (f ∷ es) d h is = absurd h
cut_here (b ∷ ds) [] d h is = absurd (let x = h.0 in cc)
cut_here (b ∷ ds) (f ∷ es) d h is = (h.0, cut_here ds es d h.1 is)

pub cut_before : (ds : List Data) (es : List Event) (d : Data) → AreRead ds es true → AreRead (ds ++ d ∷ []) es true
cut_before [] [] d h = absurd (cc)
cut_before [] (f ∷ es) d h = absurd h
cut_before (b ∷ ds) [] d h = (h.0, h.1)
cut_before (b ∷ ds) (f ∷ es) d h = (h.0, cut_before ds es d h.1)

-- the first value is the first event
pub first_of : (ds : List Data) (e : Event) (es : List Event) (is_cut : Bool) → AreRead ds (e ∷ es) is_cut →
    (d : Data) × (rest : List Data) × (ds ≡ d ∷ rest) × (event_at d ≡ Some e) × AreRead rest es is_cut
first_of [] e es is_cut h = absurd h
first_of (d ∷ ds) e es is_cut h = (d, ds, refl, h.0, h.1)

pub none_left : (ds : List Data) → AreRead ds [] false → ds ≡ []
none_left [] h = refl
none_left (d ∷ ds) h = absurd (let x = h.0 in cc)

pub one_left : (ds : List Data) → AreRead ds [] true → (d : Data) × (rest : List Data) × (ds ≡ d ∷ rest) × (event_at d ≡ None)
one_left [] h = absurd (cc)
one_left (d ∷ ds) h = (d, ds, refl, h.1)
