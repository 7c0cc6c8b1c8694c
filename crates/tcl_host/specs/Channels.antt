-- Open channels in memory: a finite map from names to channels.
use Rattle.std.specs.Prelude.{◌≡◌, ℕ, zero, suc, ◌+◌, Bool, List, [], refl}
use Rattle.std.specs.Coded.{Coded, code_by, coded×, coded_ℕ, coded_bool, coded_list}
use Rattle.tcl_host.specs.declared.memory.channel.Channel.{Channel}
use Rattle.tcl_host.specs.declared.memory.channel.Stream.{Stream}
use Rattle.tcl_host.specs.declared.memory.channel.Stream.TheVariants.{Input, ReadFile, Output}
use Rattle.tcl_host.specs.declared.memory.channel.Stream.TheVariants.{Errors, WriteFile}

-- a stream is stored as its kind and its file's name
abbrev pub stream_tag : Stream → ℕ × List ℕ
stream_tag Input = (0, [])
stream_tag (ReadFile name) = (1, name)
stream_tag Output = (2, [])
stream_tag Errors = (3, [])
stream_tag (WriteFile name) = (4, name)

abbrev pub stream_of : ℕ → List ℕ → Stream
stream_of zero name = Input
stream_of (suc zero) name = ReadFile name
stream_of (suc (suc zero)) name = Output
stream_of (suc (suc (suc zero))) name = Errors
stream_of (suc (suc (suc (suc n)))) name = WriteFile name

pub stream_of-tag : (stream : Stream) →
    stream_of (stream_tag stream).0 (stream_tag stream).1 ≡ stream
stream_of-tag Input = refl
stream_of-tag (ReadFile name) = refl
stream_of-tag Output = refl
stream_of-tag Errors = refl
stream_of-tag (WriteFile name) = refl

abbrev pub stream_code : Coded Stream
stream_code = code_by (ℕ × List ℕ) (coded× coded_ℕ (coded_list coded_ℕ)) stream_tag
    (λ p. stream_of p.0 p.1) stream_of-tag

-- a channel is stored as its fields
abbrev pub channel_code : Coded Channel
channel_code =
    code_by (Stream × (ℕ × Bool)) (coded× stream_code (coded× coded_ℕ coded_bool))
    (λ c. (c.stream, (c.place, c.ended)))
    (λ p. record { stream = p.0; place = p.1.0; ended = p.1.1 }) (λ _. refl)

-- a channel from which so many bytes more were read
abbrev pub advanced : Channel → ℕ → Bool → Channel
advanced channel count ended = record channel { place = channel.place + count; ended = ended }
