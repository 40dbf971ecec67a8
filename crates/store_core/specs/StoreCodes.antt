-- How the code stores what an edit destroyed.
use Rattle.std.specs.Prelude.{ℕ, Bool, List, Option, refl}
use Rattle.std.specs.Coded.{Coded, code_by, coded×, coded_list, coded_option, coded_bool, coded_ℕ}
use Rattle.dots_core.specs.declared.dot.Dot.{Dot}
use Rattle.dots_core.specs.Dots.{dot_code}
use Rattle.dots_core.specs.Clocks.{Clocks}
use Rattle.entry_core.specs.Presences.{Entry, Presence, entry_of, presence_code, presence_of}
use Rattle.store_core.specs.Delivered.{Delivered, OldPart}
use Rattle.store_core.specs.ForgottenNames.{Forgotten}
use Rattle.store_core.specs.LeftEntries.{Left}

-- an entry is stored as the pair of its dot and its presence
abbrev pub entry_code : Coded Entry
entry_code = code_by (Dot × Presence) (coded× dot_code presence_code) (λ e. (e.dot, presence_of e)) (λ t. entry_of t.0 t.1) (λ _. refl)

-- the clocks of a name are stored as the pair of their fields
abbrev pub clocks_code : Coded Clocks
clocks_code = code_by (ℕ × List ℕ) (coded× coded_ℕ (coded_list coded_ℕ)) (λ p. (p.clock, p.cloud)) (λ t. record { clock = t.0; cloud = t.1 }) (λ _. refl)

-- what left is stored as the tuple of its fields
abbrev pub left_code : Coded Left
left_code =
    code_by (Entry × (Option Entry × Bool)) (coded× entry_code (coded× (coded_option entry_code) coded_bool)) (λ l. (l.entry, (l.unsent, l.in_delta)))
    (λ t. record { entry = t.0; unsent = t.1.0; in_delta = t.1.1 }) (λ _. refl)

-- what was forgotten is stored as the pair of its fields
abbrev pub forgotten_code : Coded Forgotten
forgotten_code =
    code_by (Clocks × List Entry) (coded× clocks_code (coded_list entry_code)) (λ f. (f.part, f.entries))
    (λ t. record { part = t.0; entries = t.1 }) (λ _. refl)

-- an old part is stored as the pair of its fields
abbrev old_part_code : Coded OldPart
old_part_code = code_by (ℕ × Clocks) (coded× coded_ℕ clocks_code) (λ p. (p.name, p.part)) (λ t. record { name = t.0; part = t.1 }) (λ _. refl)

-- what a delivery destroyed is stored as the tuple of its fields
abbrev pub delivered_code : Coded Delivered
delivered_code =
    code_by (List Dot × (List Entry × List OldPart)) (coded× (coded_list dot_code) (coded× (coded_list entry_code) (coded_list old_part_code)))
    (λ d. (d.joined, (d.left, d.parts))) (λ t. record { joined = t.0; left = t.1.0; parts = t.1.1 }) (λ _. refl)
