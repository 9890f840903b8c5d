pub mod PlayedWorld
