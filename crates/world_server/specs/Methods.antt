-- The methods, as a command line names them.
use Rattle.std.specs.Prelude.{ℕ, List, codes}
use Rattle.shared_capture.specs.declared.method.Kind.{Kind}
use Rattle.shared_capture.specs.declared.method.Kind.TheVariants.{Zigzag, PingPong}

abbrev pub method_word : Kind → List ℕ
method_word Zigzag = codes "zigzag"
method_word PingPong = codes "pingpong"
