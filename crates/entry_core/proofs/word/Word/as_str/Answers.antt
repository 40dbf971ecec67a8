use Rattle.std.proofs.Common.{ap, sym, subst, take, ◌∙◌}
use Rattle.std.specs.Str.{IsUtf8}
use Rattle.entry_core.specs.Texts.{text_bytes}
use Rattle.entry_core.proofs.Ascii.{utf8_word}
use Rattle.entry_core.proofs.word.Word.as_str.Goals as goal

pub from_utf8_unchecked-requires : goal.from_utf8_unchecked-requires
from_utf8_unchecked-requires g c =
    subst IsUtf8 (ap text_bytes c.in-Short.is ∙ ap (λ n. take n c.in-Short.short.bytes) (sym c.from.ensures)) (utf8_word _ c.self.invariant.1)
